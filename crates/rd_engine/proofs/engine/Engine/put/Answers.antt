use Rattle.std.proofs.Common.{◌≡◌, ◌∙◌, ap, sym, subst, arith, length, Some, ◌+◌, ◌≤◌, ◌-◌, false, refl}
use Rattle.rd_keys.specs.declared.entry.EntryKey.{EntryKey}
use Rattle.rd_item.specs.Items.{Made}
use Rattle.rd_list.specs.Wrappers.{Wrapper}
use Rattle.rd_list.specs.Entries.{flat}
use Rattle.rd_list.specs.EntryNames.{kept_leaves}
use Rattle.rd_list.specs.Kept.{KeptList}
use Rattle.rd_list.specs.Views.{levels}
use Rattle.rd_tree.specs.Document.{Document}
use Rattle.rd_tree.specs.Forest.{size}
use Rattle.rd_merge.specs.Plans.{filled}
use Rattle.rd_paint.specs.Repainted.{IsRepainted}
use Rattle.rd_engine.specs.State.{EngineState, IsEngine}
use Rattle.rd_paint.specs.Since.{AreMadeSince}
use Rattle.rd_engine.specs.Invalid.{invalid_area}
use Rattle.rd_engine.proofs.Made.{made_since}
use Rattle.rd_engine.proofs.Putting.{stands, deep, few_kept, built_within, joined, noted, numbered_so, area_painted, put_engine}
use Rattle.rd_engine.proofs.engine.Engine.put.Goals as goal

pub repaint_since-requires-clause-area : goal.repaint_since-requires-clause-area
repaint_since-requires-clause-area g c =
    let prep = rw (← c.self.view_is) at c.requires.prepared in
    prep.area.size ∙ sym c.self.invariant.size

pub repaint_since-requires-clause-size : goal.repaint_since-requires-clause-size
repaint_since-requires-clause-size g c =
    let prep = rw (← c.self.view_is) at c.requires.prepared in
    ap (λ b. b.size) prep.buffers ∙ sym c.self.invariant.size

pub repaint_since-requires-clause-deep : goal.repaint_since-requires-clause-deep
repaint_since-requires-clause-deep g c =
    let s : EngineState = record { tree = c.self.inside.tree; kept = c.self.inside.list; canvas = c.self.inside.canvas; pending = c.self.inside.pending; paints = c.self.inside.paints; area = c.self.inside.area } in
    let prep = rw (← c.self.view_is) at c.requires.prepared in
    let few : size s.tree.boxes ≤ 20000 = omega (arith, c.boxes-boxes.ensures.count, c.boxes-boxes.ensures.most) in
    let is : c.finish.result ≡ filled c.args.prepared.plan s.kept c.args.prepared.new = c.finish.ensures ∙ ap (λ k. filled c.args.prepared.plan k c.args.prepared.new) c.replace-old.ensures.value in
    let d = deep s c.self.invariant c.args.prepared prep c.root-root.ensures.apart c.canvas-size.ensures.limits c.root-root.ensures.depth few c.finish.result is in
    let v = ap (λ k. levels k.entries) c.view.ensures in
    let b = ap (λ b. b.rows) prep.buffers in
    omega (arith, d, v, b)

pub overflow_add-number : goal.overflow_add-number
overflow_add-number g c =
    let h = rw (← c.self.view_is) at c.requires.paints in
    omega (arith, h)

pub repaint_since-requires-clause-since : goal.repaint_since-requires-clause-since
repaint_since-requires-clause-since g c =
    let s : EngineState = record { tree = c.self.inside.tree; kept = c.self.inside.list; canvas = c.self.inside.canvas; pending = c.self.inside.pending; paints = c.self.inside.paints; area = c.self.inside.area } in
    let prep = rw (← c.self.view_is) at c.requires.prepared in
    let few : size s.tree.boxes ≤ 20000 = omega (arith, c.boxes-boxes.ensures.count, c.boxes-boxes.ensures.most) in
    let is : c.finish.result ≡ filled c.args.prepared.plan s.kept c.args.prepared.new = c.finish.ensures ∙ ap (λ k. filled c.args.prepared.plan k c.args.prepared.new) c.replace-old.ensures.value in
    let t : EngineState = record { tree = s.tree; kept = c.finish.result; canvas = s.canvas; pending = false; paints = s.paints + 1; area = Some c.args.prepared.area } in
    let numbers = numbered_so s c.self.invariant c.args.prepared prep c.root-root.ensures.apart c.canvas-size.ensures.limits c.root-root.ensures.depth few c.finish.result is t refl in
    subst (λ (k : KeptList EntryKey Wrapper Made). AreMadeSince c.args.prepared.area (s.paints + 1) (flat k.entries)) (sym c.view.ensures)
    (made_since c.args.prepared.area (invalid_area s) (s.paints + 1) (flat c.finish.result.entries) prep.area.pixels numbers.made)

pub leaves-leaves-requires : goal.leaves-leaves-requires
leaves-leaves-requires g c =
    let s : EngineState = record { tree = c.self.inside.tree; kept = c.self.inside.list; canvas = c.self.inside.canvas; pending = c.self.inside.pending; paints = c.self.inside.paints; area = c.self.inside.area } in
    let prep = rw (← c.self.view_is) at c.requires.prepared in
    let few : size s.tree.boxes ≤ 20000 = omega (arith, c.boxes-boxes.ensures.count, c.boxes-boxes.ensures.most) in
    let is : c.finish.result ≡ filled c.args.prepared.plan s.kept c.args.prepared.new = c.finish.ensures ∙ ap (λ k. filled c.args.prepared.plan k c.args.prepared.new) c.replace-old.ensures.value in
    let d = few_kept s c.self.invariant c.args.prepared prep c.root-root.ensures.apart c.canvas-size.ensures.limits c.root-root.ensures.depth few c.finish.result is in
    let v = ap (λ k. length (flat k.entries)) c.view-2.ensures in
    omega (arith, d, v)

pub overflow_sub-result : goal.overflow_sub-result
overflow_sub-result g c =
    let s : EngineState = record { tree = c.self.inside.tree; kept = c.self.inside.list; canvas = c.self.inside.canvas; pending = c.self.inside.pending; paints = c.self.inside.paints; area = c.self.inside.area } in
    let prep = rw (← c.self.view_is) at c.requires.prepared in
    let few : size s.tree.boxes ≤ 20000 = omega (arith, c.boxes-boxes.ensures.count, c.boxes-boxes.ensures.most) in
    let is : c.finish.result ≡ filled c.args.prepared.plan s.kept c.args.prepared.new = c.finish.ensures ∙ ap (λ k. filled c.args.prepared.plan k c.args.prepared.new) c.replace-old.ensures.value in
    let d = built_within s c.self.invariant c.args.prepared prep c.root-root.ensures.apart c.canvas-size.ensures.limits c.root-root.ensures.depth few c.finish.result is in
    let v = ap (λ k. length (flat k.entries)) c.view-2.ensures in
    omega (arith, d, v, c.leaves-leaves.ensures)

pub invariant_of-self : goal.invariant_of-self
invariant_of-self g c =
    let s : EngineState = record { tree = c.self.inside.tree; kept = c.self.inside.list; canvas = c.self.inside.canvas; pending = c.self.inside.pending; paints = c.self.inside.paints; area = c.self.inside.area } in
    let prep = rw (← c.self.view_is) at c.requires.prepared in
    let few : size s.tree.boxes ≤ 20000 = omega (arith, c.boxes-boxes.ensures.count, c.boxes-boxes.ensures.most) in
    let is : c.finish.result ≡ filled c.args.prepared.plan s.kept c.args.prepared.new = c.finish.ensures ∙ ap (λ k. filled c.args.prepared.plan k c.args.prepared.new) c.replace-old.ensures.value in
    let re = subst (λ (k : KeptList EntryKey Wrapper Made). IsRepainted (kept_leaves k.entries) c.args.prepared.area s.canvas c.repaint_since.new.canvas) c.view.ensures c.repaint_since.ensures.painted in
    subst (λ (t : Document). IsEngine (record { tree = t; kept = c.finish.result; canvas = c.repaint_since.new.canvas; pending = false; paints = s.paints + 1; area = Some c.args.prepared.area })) (sym c.settle.ensures)
    (put_engine s c.self.invariant c.args.prepared prep c.root-root.ensures.apart c.canvas-size.ensures.limits c.root-root.ensures.depth few c.finish.result is c.repaint_since.new.canvas re)

pub returns-clause-stands : goal.returns-clause-stands
returns-clause-stands g c =
    let s : EngineState = record { tree = c.self.inside.tree; kept = c.self.inside.list; canvas = c.self.inside.canvas; pending = c.self.inside.pending; paints = c.self.inside.paints; area = c.self.inside.area } in
    let prep = rw (← c.self.view_is) at c.requires.prepared in
    let few : size s.tree.boxes ≤ 20000 = omega (arith, c.boxes-boxes.ensures.count, c.boxes-boxes.ensures.most) in
    let is : c.finish.result ≡ filled c.args.prepared.plan s.kept c.args.prepared.new = c.finish.ensures ∙ ap (λ k. filled c.args.prepared.plan k c.args.prepared.new) c.replace-old.ensures.value in
    rw (← c.self.view_is) (stands s c.self.invariant c.args.prepared prep c.root-root.ensures.apart c.canvas-size.ensures.limits c.root-root.ensures.depth few c.finish.result is)

pub returns-clause-joined : goal.returns-clause-joined
returns-clause-joined g c =
    let s : EngineState = record { tree = c.self.inside.tree; kept = c.self.inside.list; canvas = c.self.inside.canvas; pending = c.self.inside.pending; paints = c.self.inside.paints; area = c.self.inside.area } in
    let prep = rw (← c.self.view_is) at c.requires.prepared in
    let few : size s.tree.boxes ≤ 20000 = omega (arith, c.boxes-boxes.ensures.count, c.boxes-boxes.ensures.most) in
    let is : c.finish.result ≡ filled c.args.prepared.plan s.kept c.args.prepared.new = c.finish.ensures ∙ ap (λ k. filled c.args.prepared.plan k c.args.prepared.new) c.replace-old.ensures.value in
    rw (← c.self.view_is) (joined s c.self.invariant c.args.prepared prep c.root-root.ensures.apart c.canvas-size.ensures.limits c.root-root.ensures.depth few c.finish.result is)

pub returns-clause-note : goal.returns-clause-note
returns-clause-note g c =
    let s : EngineState = record { tree = c.self.inside.tree; kept = c.self.inside.list; canvas = c.self.inside.canvas; pending = c.self.inside.pending; paints = c.self.inside.paints; area = c.self.inside.area } in
    let prep = rw (← c.self.view_is) at c.requires.prepared in
    let few : size s.tree.boxes ≤ 20000 = omega (arith, c.boxes-boxes.ensures.count, c.boxes-boxes.ensures.most) in
    let is : c.finish.result ≡ filled c.args.prepared.plan s.kept c.args.prepared.new = c.finish.ensures ∙ ap (λ k. filled c.args.prepared.plan k c.args.prepared.new) c.replace-old.ensures.value in
    let d = built_within s c.self.invariant c.args.prepared prep c.root-root.ensures.apart c.canvas-size.ensures.limits c.root-root.ensures.depth few c.finish.result is in
    let v = ap (λ k. length (flat k.entries)) c.view-2.ensures in
    let l = c.leaves-leaves.ensures in
    rw (← c.self.view_is) (noted s c.self.invariant c.args.prepared prep c.root-root.ensures.apart c.canvas-size.ensures.limits c.root-root.ensures.depth few c.finish.result is (c.leaves-leaves.result - c.args.prepared.built) c.count-pixels.result (omega (arith, d, v, l)) c.count-pixels.ensures)

pub returns-clause-numbers : goal.returns-clause-numbers
returns-clause-numbers g c =
    let s : EngineState = record { tree = c.self.inside.tree; kept = c.self.inside.list; canvas = c.self.inside.canvas; pending = c.self.inside.pending; paints = c.self.inside.paints; area = c.self.inside.area } in
    let prep = rw (← c.self.view_is) at c.requires.prepared in
    let few : size s.tree.boxes ≤ 20000 = omega (arith, c.boxes-boxes.ensures.count, c.boxes-boxes.ensures.most) in
    let is : c.finish.result ≡ filled c.args.prepared.plan s.kept c.args.prepared.new = c.finish.ensures ∙ ap (λ k. filled c.args.prepared.plan k c.args.prepared.new) c.replace-old.ensures.value in
    let t : EngineState = record { tree = c.settle.new.self; kept = c.finish.result; canvas = c.repaint_since.new.canvas; pending = false; paints = s.paints + 1; area = Some c.args.prepared.area } in
    rw (← c.self.view_is) (numbered_so s c.self.invariant c.args.prepared prep c.root-root.ensures.apart c.canvas-size.ensures.limits c.root-root.ensures.depth few c.finish.result is t refl)

pub returns-clause-area : goal.returns-clause-area
returns-clause-area g c =
    let s : EngineState = record { tree = c.self.inside.tree; kept = c.self.inside.list; canvas = c.self.inside.canvas; pending = c.self.inside.pending; paints = c.self.inside.paints; area = c.self.inside.area } in
    let prep = rw (← c.self.view_is) at c.requires.prepared in
    let few : size s.tree.boxes ≤ 20000 = omega (arith, c.boxes-boxes.ensures.count, c.boxes-boxes.ensures.most) in
    let is : c.finish.result ≡ filled c.args.prepared.plan s.kept c.args.prepared.new = c.finish.ensures ∙ ap (λ k. filled c.args.prepared.plan k c.args.prepared.new) c.replace-old.ensures.value in
    let re = subst (λ (k : KeptList EntryKey Wrapper Made). IsRepainted (kept_leaves k.entries) c.args.prepared.area s.canvas c.repaint_since.new.canvas) c.view.ensures c.repaint_since.ensures.painted in
    let t : EngineState = record { tree = c.settle.new.self; kept = c.finish.result; canvas = c.repaint_since.new.canvas; pending = false; paints = s.paints + 1; area = Some c.args.prepared.area } in
    rw (← c.self.view_is) (area_painted s c.self.invariant c.args.prepared prep c.root-root.ensures.apart c.canvas-size.ensures.limits c.root-root.ensures.depth few c.finish.result is c.repaint_since.new.canvas re t refl refl refl)
