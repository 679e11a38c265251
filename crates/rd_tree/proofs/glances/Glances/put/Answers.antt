use Rattle.std.proofs.Common.{◌∙◌, ap, sym, subst, [], ◌∷◌, ◌++◌, map}
use Rattle.std.proofs.lemmas.List.{map-append}
use Rattle.rd_tree.specs.Internal.Calm.{AreCalm}
use Rattle.rd_tree.specs.Internal.Glances.{AreShared, quiet_word}
use Rattle.rd_tree.proofs.glances.Glances.put.Goals as goal

pub invariant_of-self : goal.invariant_of-self
invariant_of-self c =
    let rows = c.self.inside.rows.items in
    let w = c.word_of.result in
    record {
      words = record {
        words = c.push_reserved.ensures.items ∙ (ap (λ ws. ws ++ w ∷ []) c.self.invariant.words.words
            ∙ (ap (λ n. map quiet_word rows ++ n ∷ []) c.word_of.ensures ∙ (sym (map-append quiet_word rows (c.args.glance ∷ []))
            ∙ ap (map quiet_word) (sym c.push_reserved-else-slot-len.ensures.items))));
        shared = subst (λ ws. AreShared ws c.extend.new.shared.items) (sym c.push_reserved.ensures.items)
            (subst (λ ws. AreShared (ws ++ w ∷ []) c.extend.new.shared.items) c.deref.ensures.value (c.extend.ensures w));
      };
      calm = subst (λ gs. AreCalm gs c.extend-else-slot-len.new.calm.items) (sym c.push_reserved-else-slot-len.ensures.items)
          (subst (λ gs. AreCalm (gs ++ c.args.glance ∷ []) c.extend-else-slot-len.new.calm.items) c.deref-else-slot-len.ensures.value (c.extend-else-slot-len.ensures c.args.glance));
    }
