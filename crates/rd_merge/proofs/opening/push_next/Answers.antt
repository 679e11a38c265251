use Rattle.std.proofs.Common.{◌∙◌, ◌∷◌, [], ap}
use Rattle.rd_list.specs.Entries.{◌▷◌}
use Rattle.rd_list.specs.KeptView.{kept_entries}
use Rattle.rd_list.specs.declared.kept.Entry.TheVariants as kept
use Rattle.rd_list.proofs.News.{kept-append}
use Rattle.rd_merge.proofs.opening.push_next.Goals as goal

pub returns-clause-put : goal.returns-clause-put
returns-clause-put g c =
    let old = c.args.made.now.items in
    ap kept_entries c.push_reserved.ensures.items ∙ kept-append old (kept.Leaf c.next_item-item.result ∷ []) ∙ ap (λ xs. kept_entries old ▷ xs) c.next_item-item.ensures.leaf
