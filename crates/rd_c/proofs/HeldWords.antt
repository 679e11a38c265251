-- The machine values of a `Held`. Assumes `Logic`.
use Rattle.std.proofs.Common.{◌≡◌, ℕ, List, [], ◌∷◌, ◌++◌, refl, subst}
use seplogic.Ra.Ura.{Ura}
use mir.Syntax.{impl, tnil, dnil, ty_ptr}
use mir.Raw.{raw as bare}
use mir.Val.{Val, vstruct, of_list, has_ty}
use base.Logic.{never, fst∗}
use types.Logic.{Logic, sem}
use types.Kit.{Item, Goal, Seq, Step, step, ‵, ◌$◌, move, drop, fsplit, fjoin, fpick, fpack, feq_i, feq_l}
use denote.RattleType.{RattleType, Valss}
use denote.Memory.{lone}
use denote.RawPtr.{Ptr, block_ptr, null_ptr, ptr_val, in_a_block}
use denote.Steps.{nothing}
use denote.Param.{layout}
use denote.Struct.Struct.{within}
use denote.Struct.Owning.{shape, fields, to}
use Rattle.std.specs.Prelude.{Option, Some, None}
use Rattle.core.proofs.alloc.Calls.{Al, handle_tells}
use Rattle.core.proofs.cell.Inside.{Good}
use Rattle.core.proofs.atomic.Steps.{Ptr-Good}
use Rattle.std_alloc.specs.Box.Ownership.{box_owns}
use Rattle.std.specs.contracts.alloc.Global as heap
use Rattle.std.proofs.alloc.Global.TheLaws as heap_laws
use Rattle.std.specs.contracts.impls.GlobalAllocator.TheImpl.{ghosts}
use Rattle.rd_c.specs.Handles.{held_owns, IsHeld}
use Rattle.rd_c.specs.contracts.painter.Painter as painter
use Rattle.rd_c.specs.contracts.held.Held as held
use Rattle.rd_c.proofs.LooseWords.{both, both_tt}

abbrev pub S : RattleType
S = painter.the_row

abbrev pub Z : RattleType
Z = heap.the_row

abbrev pub Row : RattleType
Row = held.the_row

abbrev al : Al
al = record { row = Z; laws = heap_laws.the_row_laws; g = ghosts; d = impl [] tnil dnil; drops = impl [] tnil dnil }

pub held_good : (p : Ptr) (h : Val) → Good (layout Z) h → Good (layout Row) (both (ptr_val p) h)
held_good p h fits =
    let g : Good ty_ptr (ptr_val p) = Ptr-Good p in
    (both_tt (has_ty ty_ptr (ptr_val p)) (has_ty (layout Z) h) g.0 fits.0, (g.1, (fits.1, tt)))

module _ {M : Type 1} {𝓤 : Ura M} {𝓛 : Logic 𝓤} {K : Type 0} {Γ : List (Item 𝓤)} {G : Goal 𝓤 𝓛.H} where
  pub held_in : K → (p : Ptr) (h : Val) (a : Z.Denot) (x : Option S.Denot)
      → Step K 𝓛 (‵ (Row.own_val (record { at = p; alloc = a; value = x }) (both (ptr_val p) h ∷ [])) ∷ Γ) G (‵ (held_owns S a p x) ∷ ‵ (Z.own_val a (h ∷ [])) ∷ Γ) G
  held_in t p h a x = step (λ s. let v : Val = both (ptr_val p) h in
      nothing t $ move t (2 ∷ 0 ∷ []) $ fjoin t $ feq_i t (List Val) (ptr_val p ∷ []) (ptr_val p ∷ []) refl $ fjoin t $ feq_i t (List Val) (v ∷ []) (v ∷ []) refl $ fjoin t $
      fpack t (Valss (fields held.the_type)) (within (shape held.the_type) (to held.the_type (record { at = p; alloc = a; value = x })) (v ∷ [])) (ptr_val p ∷ [], (h ∷ [], tt)) $ fjoin t $ s)

  pub held_out : K → (d : Row.Denot) (vs : List Val)
      → ((h : Val) → vs ≡ both (ptr_val d.at) h ∷ [] → Good (layout Z) h → Seq K 𝓛 (‵ (held_owns S d.alloc d.at d.value) ∷ ‵ (Z.own_val d.alloc (h ∷ [])) ∷ Γ) G)
      → Seq K 𝓛 (‵ (Row.own_val d vs) ∷ Γ) G
  held_out t d vs k =
      fsplit t $ fpick t (λ vss. fsplit t $ feq_l t (λ ev. fsplit t $ feq_l t (λ ep. fsplit t $ handle_tells al t d.alloc vss.1.0 (λ h ea fits. move t (1 ∷ []) $ drop t $ move t (1 ∷ []) $
      k h (subst (λ (ws : List Val). vs ≡ vstruct (of_list (ptr_val d.at ∷ (ws ++ []))) ∷ []) ea (subst (λ (ps : List Val). vs ≡ vstruct (of_list (ps ++ (vss.1.0 ++ []))) ∷ []) ep ev)) fits))))

  pub held_some : K → (p : Ptr) (a : Z.Denot) (m : Option S.Denot) → IsHeld m
      → ((b o : ℕ) (x : S.Denot) → p ≡ block_ptr b o → m ≡ Some x → Seq K 𝓛 (‵ (box_owns (ghosts.dealloc_token a) S (block_ptr b o) x) ∷ Γ) G)
      → Seq K 𝓛 (‵ (held_owns S a p m) ∷ Γ) G
  held_some t p a None e k = absurd e
  held_some t p a (Some x) e k =
      in_a_block t p (λ q. box_owns (ghosts.dealloc_token a) S q x) (fst∗ 𝓤 (never 𝓤) (sem 𝓛 (ghosts.dealloc_token a (bare (lone S.mir)) null_ptr))) (λ b o e'. k b o x e' refl)
