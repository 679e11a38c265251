use Rattle.std.proofs.Common.{◌∙◌, sym, ap, cond, Bool, [], ◌∷◌}
use Rattle.rd_list.specs.Entries.{◌▷◌}
use Rattle.rd_list.specs.EntryNames.{new_leaves}
use Rattle.rd_list.specs.NewView.{new_entries}
use Rattle.rd_low_tests.specs.DrawnLevels.{line}
use Rattle.rd_low_tests.specs.declared.merge.TheConstants.{INK}
use Rattle.rd_low_tests.proofs.DrawnLevels.{leaf_pushed, nothing_pushed}
use Rattle.rd_low_tests.proofs.merge.checked.push_leaf.Goals as goal

pub returns-then-is_wanted : goal.returns-then-is_wanted
returns-then-is_wanted g c =
    leaf_pushed INK c.args.entries.now.items c.push.new.self.items c.leaf.result c.args.spot.now c.args.at c.in_ok-push.ensures.items c.leaf.ensures
    ∙ ap (λ (b : Bool). new_leaves (new_entries c.args.entries.now.items) ▷ line INK (cond b (c.args.spot.now ∷ []) [])) (sym c.if-is_wanted.true)

pub returns : goal.returns
returns g c =
    nothing_pushed INK (new_leaves (new_entries c.args.entries.now.items))
    ∙ ap (λ (b : Bool). new_leaves (new_entries c.args.entries.now.items) ▷ line INK (cond b (c.args.spot.now ∷ []) [])) (sym c.if-is_wanted.false)
