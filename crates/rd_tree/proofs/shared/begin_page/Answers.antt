use Rattle.std.proofs.Common.{◌≡◌, ◌∙◌, refl, [], ◌∷◌, ◌++◌, length, drop, subst, arith}
use Rattle.std.proofs.Math.Seq.{take-append_seam}
use Rattle.rd_tree.specs.Internal.Glances.{IsStirred}
use Rattle.rd_tree.specs.declared.shared.PageWord.{PageWord}
use Rattle.rd_tree.proofs.Nodes.Shared.{page_begun}
use Rattle.rd_tree.proofs.shared.begin_page.Goals as goal

pub returns : goal.returns
returns c = λ w.
    let sh = c.stir.new.shared in
    let rest = drop (length c.stir.new.shared) c.push_reserved.new.self.items in
    let all : c.push_reserved.new.self.len ≡ length c.stir.new.shared = omega arith in
    let x : PageWord = record { word = c.from.result; odd = c.with_bit.result; stirred = 0 } in
    let stirred : IsStirred (c.args.shared.now.items ++ x ∷ []) c.stir.new.shared c.len-page.result =
    subst (λ ks. IsStirred ks c.stir.new.shared c.len-page.result) (c.deref_mut.ensures.value ∙ c.push_reserved.ensures.items) c.stir.ensures in
    rw (all, take-append_seam sh rest)
    (page_begun c.args.words.now w c.args.shared.now.items c.stir.new.shared x c.requires.shared c.requires.page (omega (arith, c.from.ensures))
    c.with_bit.ensures.set refl (subst (IsStirred (c.args.shared.now.items ++ x ∷ []) c.stir.new.shared) (grind arith) stirred))
