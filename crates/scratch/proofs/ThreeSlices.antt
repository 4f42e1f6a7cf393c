-- A shared slice, one to be written and a shared one, as a tuple of a function's result. Assumes `Logic`.
--     made     the tuple is owned where its three parts are
--     told     it says its machine value, and that the three counts fit a word
use mathlib.Core.Path.{◌≡◌, ap, ◌∙◌}
use Prim.Native.Nat.{◌<◌, ◌^◌}
use mathlib.Core.List.{List, [], ◌∷◌}
use lib.ListN.{length}
use seplogic.Ra.Ura.{Ura}
use mir.Syntax.{Lifetime}
use mir.Val.{Val, vstruct, vcons, vnil, of_list}
use base.Logic.{SProp, ent, sep, guard}
use base.Fml.{Lft}
use types.Logic.{Logic, sem}
use types.Kit.{‵, ◌$◌, ◌∵◌, !, qed, move, fsplit, fjoin, fpick, fpack, feq_l, feq_i, check, done}
use denote.Laws.{shows}
use denote.RattleType.{RattleType, Valss, flat}
use denote.Ref.{Bor, MutBor}
use denote.Slice.{MutSlice, ShrSlice, slice_val, shr_slice_vals, mut_slice_vals}
use denote.Steps.{nothing, only, peeks}
use denote.Struct.Declared.{shape}
use denote.Struct.Struct.{within}
use denote.Struct.Tuple.{Tuple, tuple_type}

module _ (ℓ : Lifetime) (κ : Lft) (R : RattleType) where
  abbrev pub Three : List RattleType
  Three = ShrSlice ℓ κ R ∷ MutSlice ℓ κ R ∷ ShrSlice ℓ κ R ∷ []

  abbrev pub Parts : Type 0
  Parts = Bor (List R.Denot) × MutBor (List R.Denot) × Bor (List R.Denot)

  abbrev pub word : Parts → Val
  word r = vstruct (vcons (slice_val r.0.ref_ptr (length r.0.now)) (vcons (slice_val r.1.ref_ptr (length r.1.now))
      (vcons (slice_val r.2.ref_ptr (length r.2.now)) vnil)))

  abbrev pub Told : Parts → Val → Type 0
  Told r v = (v ≡ word r) × (length r.0.now < 2 ^ 64) × (length r.1.now < 2 ^ 64) × (length r.2.now < 2 ^ 64)

  module _ {M : Type 1} {𝓤 : Ura M} (𝓛 : Logic 𝓤) (r : Parts) where
    abbrev pub Apart : SProp 𝓤
    Apart = sep 𝓤 (sem 𝓛 ((ShrSlice ℓ κ R).own_val r.0 (shr_slice_vals r.0)))
        (sep 𝓤 (sem 𝓛 ((MutSlice ℓ κ R).own_val r.1 (mut_slice_vals r.1))) (sem 𝓛 ((ShrSlice ℓ κ R).own_val r.2 (shr_slice_vals r.2))))

    abbrev Whole : List Val → SProp 𝓤
    Whole vs = sem 𝓛 ((Tuple Three).own_val r vs)

    pub made : (v : Val) → v ≡ word r → ent 𝓤 Apart (Whole (v ∷ []))
    made v e =
        qed 𝓛 (‵ ((ShrSlice ℓ κ R).own_val r.0 (shr_slice_vals r.0)) ∷ ‵ ((MutSlice ℓ κ R).own_val r.1 (mut_slice_vals r.1))
        ∷ ‵ ((ShrSlice ℓ κ R).own_val r.2 (shr_slice_vals r.2)) ∷ []) ∵
        nothing ! $ move ! (3 ∷ 0 ∷ []) $ fjoin ! $ move ! (2 ∷ 0 ∷ []) $ fjoin ! $ move ! (1 ∷ 0 ∷ []) $ fjoin ! $
        feq_i ! (List Val) (v ∷ []) (word r ∷ []) (λ k. e k ∷ []) $ fjoin ! $
        fpack ! (Valss Three) (within (shape (tuple_type Three)) (r.0, (r.1, (r.2, tt))) (v ∷ []))
        (shr_slice_vals r.0, (mut_slice_vals r.1, (shr_slice_vals r.2, tt))) $ done !

    pub told : (v : Val) → ent 𝓤 (Whole (v ∷ [])) (guard 𝓤 (Told r v) (Whole (v ∷ [])))
    told v = qed 𝓛 (‵ ((Tuple Three).own_val r (v ∷ [])) ∷ []) ∵ fpick ! (λ vss. fsplit ! $ feq_l ! (λ e. fsplit ! $
        peeks ! (ShrSlice ℓ κ R) _ (shows 𝓛 (ShrSlice ℓ κ R)) r.0 vss.0 (λ i₁. move ! (1 ∷ []) $ fsplit ! $
        peeks ! (MutSlice ℓ κ R) _ (shows 𝓛 (MutSlice ℓ κ R)) r.1 vss.1.0 (λ i₂. move ! (1 ∷ []) $ fsplit ! $
        peeks ! (ShrSlice ℓ κ R) _ (shows 𝓛 (ShrSlice ℓ κ R)) r.2 vss.1.1.0 (λ i₃.
        -- [the last; nothing; the second; the first]
        fjoin ! $ move ! (1 ∷ 0 ∷ []) $ fjoin ! $ move ! (1 ∷ 0 ∷ []) $ fjoin ! $
        feq_i ! (List Val) (v ∷ []) (vstruct (of_list (flat Three vss)) ∷ []) e $ fjoin ! $
        fpack ! (Valss Three) (within (shape (tuple_type Three)) (r.0, (r.1, (r.2, tt))) (v ∷ [])) vss $
        check ! (ap only e ∙ (λ k. vstruct (of_list (flat Three (i₁.0.0 k, (i₂.0.0 k, (i₃.0.0 k, tt)))))), i₁.0.1.0, i₂.0.1.0, i₃.0.1.0) $
        done !)))))
