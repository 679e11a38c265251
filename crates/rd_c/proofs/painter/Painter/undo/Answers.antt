use Rattle.std.proofs.Common.{◌≡◌, ◌<◌, ◌∙◌, refl, sym, ap, subst, List, length, take, drop}
use Rattle.std.specs.Prelude.{Some}
use Rattle.rd_tree.specs.Proper.{IsProper}
use Rattle.rd_edits.specs.declared.edit.Edit.{Edit}
use Rattle.rd_c.specs.Held.{IsChanged, IsRefusedBy, with_newest}
use Rattle.rd_c.specs.Turns.{InTurn, IsFirst}
use Rattle.rd_c.specs.Undone.{newest_of}
use Rattle.rd_c.specs.declared.painter.Painter.{Painter}
use Rattle.rd_c.proofs.Back.{back, never_refused, proper_of, stopped, stopped_at_once, taken_back}
use Rattle.rd_c.proofs.painter.Painter.undo.Goals as goal

pub returns-then-number-eq0-clause-done : goal.returns-then-number-eq0-clause-done
returns-then-number-eq0-clause-done c _ =
    let old = c.args.self.now in let new = c.change_all-number.new.self in let es : List Edit = c.in-Some.newest in let n = c.change_all-number.new.done in
    let newest : newest_of old.undo ≡ Some es = sym c.take_newest.ensures.newest ∙ c.in-Some.is in
    let done : InTurn IsChanged (take n es) old.engine new.engine = subst (λ xs. InTurn IsChanged (take n xs) old.engine new.engine) c.edits.ensures c.change_all-number.ensures.order in
    taken_back n es old new newest (c.change_all-number.ensures.all c.if-number-eq0.true ∙ ap length c.edits.ensures) done (c.change_all-number.ensures.undo ∙ c.take_newest.ensures.older)

pub returns-then-number-eq0-clause-back : goal.returns-then-number-eq0-clause-back
returns-then-number-eq0-clause-back c _ =
    let r = c.root-root.ensures in let old = c.args.self.now in let new = c.change_all-number.new.self in let es : List Edit = c.in-Some.newest in let n = c.change_all-number.new.done in
    let proper : IsProper old.engine.tree = subst IsProper c.tree.ensures (proper_of c.tree.result.now r.rooted r.apart r.keyed r.ids r.limits r.depth r.most) in
    let newest : newest_of old.undo ≡ Some es = sym c.take_newest.ensures.newest ∙ c.in-Some.is in
    let done : InTurn IsChanged (take n es) old.engine new.engine = subst (λ xs. InTurn IsChanged (take n xs) old.engine new.engine) c.edits.ensures c.change_all-number.ensures.order in
    back n old new proper (taken_back n es old new newest (c.change_all-number.ensures.all c.if-number-eq0.true ∙ ap length c.edits.ensures) done (c.change_all-number.ensures.undo ∙ c.take_newest.ensures.older))

pub returns-clause-kept : goal.returns-clause-kept
returns-clause-kept c some none =
    let old = c.args.self.now in let mid = c.change_all-number.new.self in let es : List Edit = c.in-Some.newest in let n = c.change_all-number.new.done in
    let done : InTurn IsChanged (take n es) old.engine mid.engine = subst (λ xs. InTurn IsChanged (take n xs) old.engine mid.engine) c.edits.ensures c.change_all-number.ensures.order in
    let new : Painter = record { engine = mid.engine; undo = c.keep_newest.new.undo } in
    stopped_at_once n es c.take_newest.result c.take_newest.new.undo old mid new none c.in-Some.is c.take_newest.ensures.whole done c.change_all-number.ensures.undo refl
    (c.keep_newest.ensures ∙ ap (λ xs. with_newest xs mid.undo) c.skip.ensures)

pub returns-clause-only : goal.returns-clause-only
returns-clause-only c some =
    let r = c.root-root.ensures in let old = c.args.self.now in let mid = c.change_all-number.new.self in let es : List Edit = c.in-Some.newest in let n = c.change_all-number.new.done in
    let proper : IsProper old.engine.tree = subst IsProper c.tree.ensures (proper_of c.tree.result.now r.rooted r.apart r.keyed r.ids r.limits r.depth r.most) in
    let newest : newest_of old.undo ≡ Some es = sym c.take_newest.ensures.newest ∙ c.in-Some.is in
    let done : InTurn IsChanged (take n es) old.engine mid.engine = subst (λ xs. InTurn IsChanged (take n xs) old.engine mid.engine) c.edits.ensures c.change_all-number.ensures.order in
    let few : n < length es = subst (λ (xs : List Edit). n < length xs) c.edits.ensures (c.change_all-number.ensures.stopped some) in
    let refused : IsFirst (λ e. IsRefusedBy c.change_all-number.result e mid) (drop n es) =
    subst (λ (xs : List Edit). IsFirst (λ e. IsRefusedBy c.change_all-number.result e mid) (drop n xs)) c.edits.ensures (c.change_all-number.ensures.refused some) in
    let new : Painter = record { engine = mid.engine; undo = with_newest (drop n es) mid.undo } in
    never_refused n c.change_all-number.result old new proper
    (stopped n c.change_all-number.result es old mid new newest few done refused (c.change_all-number.ensures.undo ∙ c.take_newest.ensures.older) refl refl)

pub returns-clause-stopped : goal.returns-clause-stopped
returns-clause-stopped c some _ =
    let old = c.args.self.now in let mid = c.change_all-number.new.self in let es : List Edit = c.in-Some.newest in let n = c.change_all-number.new.done in
    let newest : newest_of old.undo ≡ Some es = sym c.take_newest.ensures.newest ∙ c.in-Some.is in
    let done : InTurn IsChanged (take n es) old.engine mid.engine = subst (λ xs. InTurn IsChanged (take n xs) old.engine mid.engine) c.edits.ensures c.change_all-number.ensures.order in
    let few : n < length es = subst (λ (xs : List Edit). n < length xs) c.edits.ensures (c.change_all-number.ensures.stopped some) in
    let refused : IsFirst (λ e. IsRefusedBy c.change_all-number.result e mid) (drop n es) =
    subst (λ (xs : List Edit). IsFirst (λ e. IsRefusedBy c.change_all-number.result e mid) (drop n xs)) c.edits.ensures (c.change_all-number.ensures.refused some) in
    let new : Painter = record { engine = mid.engine; undo = c.keep_newest.new.undo } in
    stopped n c.change_all-number.result es old mid new newest few done refused (c.change_all-number.ensures.undo ∙ c.take_newest.ensures.older) refl
    (c.keep_newest.ensures ∙ ap (λ xs. with_newest xs mid.undo) c.skip.ensures)
