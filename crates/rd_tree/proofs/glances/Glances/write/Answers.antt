use Rattle.std.proofs.Common.{◌≡◌, sym, subst, drop, length, arith}
use Rattle.std.specs.Prelude.{slice_set}
use Rattle.std.proofs.lemmas.List.{map-set}
use Rattle.std.proofs.Math.Seq.{take-append_seam}
use Rattle.rd_tree.specs.Internal.Calm.{AreCalm}
use Rattle.rd_tree.specs.Internal.Glances.{quiet_word, AreShared}
use Rattle.rd_tree.proofs.glances.Glances.write.Goals as goal

pub invariant_of-self : goal.invariant_of-self
invariant_of-self c =
    let sh = c.forget.new.shared in
    let rest = drop (length c.forget.new.shared) c.self.inside.shared.items in
    let ws = slice_set c.self.inside.words.items c.args.slot c.word_of.result in
    let all : c.self.inside.shared.len ≡ length c.forget.new.shared = omega arith in
    let forgotten : AreShared ws sh = subst (λ us. AreShared (slice_set us c.args.slot c.word_of.result) c.forget.new.shared) c.deref.ensures.value
    (c.forget.ensures c.word_of.result) in
    let cs = c.stir.new.calm in
    let rest_calm = drop (length c.stir.new.calm) c.self.inside.calm.items in
    let all_calm : c.self.inside.calm.len ≡ length c.stir.new.calm = omega arith in
    let stirred : AreCalm (slice_set c.self.inside.rows.items c.args.slot c.args.glance) cs = subst (λ rs. AreCalm (slice_set rs c.args.slot c.args.glance)
    c.stir.new.calm) c.deref-2.ensures.value (c.stir.ensures c.args.glance) in
    record {
      words = record {
        words = rw (c.self.invariant.words.words, c.word_of.ensures) (sym (map-set quiet_word c.self.inside.rows.items c.args.slot c.args.glance));
        shared = rw (all, take-append_seam sh rest) forgotten;
      };
      calm = rw (all_calm, take-append_seam cs rest_calm) stirred;
    }
