-- A slice's borrow is cut in three: what lies before a range and behind it is shared, and the range is lent.
--     cuts     what a `&κ mut [R]` owns, with a token, becomes the three parts, the token, and that γ follows δ by (front ++ w) ++ back
-- These are ghost steps. Assumes `Logic`, and the law of sharing at R.
use mathlib.Core.Path.{◌≡◌, refl, sym, ◌∙◌, ap, subst}
use Prim.Native.Nat.{ℕ, ◌+◌}
use mathlib.Core.List.{List, [], ◌∷◌, ◌++◌}
use lib.ListN.{length}
use seplogic.Ra.Ura.{Ura}
use base.Fraction.{full_share}
use mir.Syntax.{Lifetime}
use mir.Val.{Val}
use base.Logic.{SProp, ent, sep, ex, emp, id⊢}
use base.Stored.{Gv, coded_list}
use base.Fml.{Lft, GName, Share, Fml, Incl-refl, ftrue, fsep, fseps, flft, fobs, fbor}
use types.Logic.{Logic, sem}
use types.Kit.{‵, raw, ◌⊛◌, some, later, ◌$◌, ◌∵◌, !, qed, move, keep, use0, use1, use2, split, split3, join, group, pick, rewrite, drop}
use types.Kit.{fsplit, fsplit3, fjoin, fjoin3, feq_l, feq_i, show, await, updating, now, done}
use types.SemTy.{SemTy, cells, Arr, Body}
use types.Share.{parts}
use types.Mut.{open_ref}
use types.Follow.{takes_beside}
use denote.Array.{Array}
use denote.Follow.{follows}
use denote.FollowSlice.{heres_id, slice_of}
use denote.Memory.{mem, shares, shared_of}
use denote.Opens.{hide}
use denote.RattleType.{RattleType}
use denote.Ref.{Bor, MutBor}
use denote.Shadow.{pure_i}
use denote.Shares.{Shares, shares_each}
use denote.Slice.{MutSlice, ShrSlice, Room, elements_shared, shr_slice_at, shr_slice_vals, mut_slice_vals}
use denote.Steps.{nothing}
use borrow.Table.Elements.{at, cut_app, join_app, length_app}
use Rattle.scratch.proofs.ThreeSlices.{Apart}

-- the three parts of front, mid and back side by side at (b, o)
module _ (R : RattleType) (b o : ℕ) (front mid back : List R.Denot) where
  abbrev start : ℕ
  start = at o (mem R).size (length front)

  abbrev end : ℕ
  end = at o (mem R).size (length (front ++ mid))

  abbrev pub one : Bor (List R.Denot)
  one = record { ref_ptr = (b, o); now = front }

  abbrev pub two : GName → MutBor (List R.Denot)
  two δ = record { ref_ptr = (b, start); ghost_name = δ; now = mid }

  abbrev pub three : Bor (List R.Denot)
  three = record { ref_ptr = (b, end); now = back }

module _ {M : Type 1} {𝓤 : Ura M} (𝓛 : Logic 𝓤) (R : RattleType) (law : (l : Lft) → Shares 𝓛 R l) where
  open 𝓛 use {H, A}

  abbrev L : ℕ → SemTy
  L n = Arr (mem R) n

  abbrev Cells : List R.Denot → ℕ → ℕ → Fml
  Cells = cells (mem R)

  abbrev code : List R.Denot → Gv
  code = (coded_list R.coded).code

  whole_cells : (xs : List R.Denot) (b o : ℕ) → parts (mem R) (shares R) full_share xs b o ≡ Cells xs b o
  whole_cells [] b o = refl
  whole_cells (x ∷ xs) b o = ap (fsep ((mem R).own_at x b o)) (whole_cells xs b (o + (mem R).size))

  -- the cells of a list, borrowed, become a `&` to them
  module _ (ℓ : Lifetime) (κ : Lft) (q : Share) (x : Bor (List R.Denot)) (rm : Room R (length x.now)) where
    abbrev b : ℕ
    b = x.ref_ptr.0

    abbrev o : ℕ
    o = x.ref_ptr.1

    shared : ent 𝓤 (sep 𝓤 (A.bor κ (Cells x.now b o)) (A.lft κ q)) (H.⇛ (sep 𝓤 (sem 𝓛 (elements_shared R x.now b o κ)) (A.lft κ q)))
    shared =
        subst (λ (F : Fml). ent 𝓤 (sep 𝓤 (A.bor κ F) (A.lft κ q)) (H.⇛ (sep 𝓤 (sem 𝓛 (elements_shared R x.now b o κ)) (A.lft κ q))))
        (whole_cells x.now b o) (shares_each 𝓛 R (shared_of R) κ (law κ) x.now κ ((κ, q) ∷ []) b o (Incl-refl κ) (Incl-refl κ))

    shows_it : ent 𝓤 (sep 𝓤 (A.bor κ (Cells x.now b o)) (A.lft κ q))
        (H.⇛ (sep 𝓤 (sem 𝓛 ((ShrSlice ℓ κ R).own_val x (shr_slice_vals x))) (A.lft κ q)))
    shows_it = qed 𝓛 (‵ (fbor κ (Cells x.now b o)) ∷ ‵ (flft κ q) ∷ []) ∵ updating ! $
        use2 𝓛 (later (‵ (elements_shared R x.now b o κ) ⊛ ‵ (flft κ q))) shared $ await ! tt $ split ! $
        hide ! $ pure_i ! (shr_slice_at R x (shr_slice_vals x)) (tt, (tt, tt)) (refl, rm) $ fjoin ! $ now ! $ done !

  module _ (ℓ : Lifetime) (κ : Lft) (q : Share) (b o : ℕ) (γ : GName) (front mid back : List R.Denot) where
    abbrev filled : List R.Denot → List R.Denot
    filled w = (front ++ w) ++ back

    abbrev n : ℕ
    n = length (filled mid)

    abbrev at₁ : ℕ
    at₁ = start R b o front mid back

    abbrev at₂ : ℕ
    at₂ = end R b o front mid back

    abbrev x : Bor (List R.Denot)
    x = one R b o front mid back

    abbrev y : GName → MutBor (List R.Denot)
    y = two R b o front mid back

    abbrev z : Bor (List R.Denot)
    z = three R b o front mid back

    abbrev Beside : List Fml
    Beside = Cells front b o ∷ Cells back b at₂ ∷ []

    mend : (w : List R.Denot)
        → ent 𝓤 (sep 𝓤 (sem 𝓛 ((L (length mid)).own_at w b at₁)) (sep 𝓤 (sem 𝓛 (fseps Beside)) (emp 𝓤)))
        (sem 𝓛 ((L n).own_at (filled w) b o))
    unfolding fseps
    mend w = qed 𝓛 (‵ ((L (length mid)).own_at w b at₁) ∷ ‵ (fseps Beside) ∷ raw (emp 𝓤) ∷ []) ∵ fsplit ! $ feq_l ! (λ e.
        let upto : length (front ++ w) ≡ length (front ++ mid) =
        length_app front w ∙ ap (λ (k : ℕ). length front + k) e ∙ sym (length_app front mid) in
        move ! (1 ∷ []) $ fsplit3 ! $ move ! (0 ∷ 3 ∷ []) $ use2 𝓛 (‵ (Cells (front ++ w) b o)) (join_app 𝓛 (mem R) front w b o) $
        move ! (1 ∷ []) $ rewrite ! 0 (λ (k : ℕ). ‵ (Cells back b (at o (mem R).size k))) (sym upto) refl $
        move ! (1 ∷ 0 ∷ []) $ use2 𝓛 (‵ (Cells (filled w) b o)) (join_app 𝓛 (mem R) (front ++ w) back b o) $
        feq_i ! ℕ (length (filled w)) n
        (length_app (front ++ w) back ∙ ap (λ (k : ℕ). k + length back) upto ∙ sym (length_app (front ++ mid) back)) $
        fjoin ! $ keep ! (0 ∷ []) $ done !)

    abbrev pub Cut : GName → SProp 𝓤
    Cut δ = sep 𝓤 (Apart ℓ κ R 𝓛 (x, y δ, z)) (sep 𝓤 (A.lft κ q) (sem 𝓛 (follows (Array R 0) (Array R 0) γ δ filled)))

    module _ (r₁ : Room R (length front)) (r₂ : Room R (length mid)) (r₃ : Room R (length back)) (vs : List Val) where
      abbrev All : Fml
      All = (MutSlice ℓ κ R).own_val (record { ref_ptr = (b, o); ghost_name = γ; now = filled mid }) vs

      pub cuts : ent 𝓤 (sep 𝓤 (sem 𝓛 All) (A.lft κ q)) (H.⇛ (ex 𝓤 Cut))
      unfolding fseps
      cuts =
          qed 𝓛 (‵ All ∷ ‵ (flft κ q) ∷ []) ∵ updating ! $ fsplit3 ! $ drop ! $
          rewrite ! 0 (λ (l : List R.Denot). ‵ (fobs γ (code l))) (heres_id R (filled mid)) refl $
          open_ref ! tt (L n) {b = b} {o = o} $ fsplit ! $ drop ! $
          use1 𝓛 (‵ (Cells (front ++ mid) b o) ⊛ ‵ (Cells back b at₂)) (cut_app 𝓛 (mem R) (front ++ mid) back b o) $ split ! $
          use1 𝓛 (‵ (Cells front b o) ⊛ ‵ (Cells mid b at₁)) (cut_app 𝓛 (mem R) front mid b o) $ split ! $
          -- [the front; the range; the back; the open borrow; its name's two halves]
          move ! (1 ∷ []) $ feq_i ! ℕ (length mid) (length mid) refl $ fjoin ! $
          move ! (1 ∷ 2 ∷ []) $ use0 𝓛 (‵ ftrue) (id⊢ 𝓤 (emp 𝓤)) $ move ! (1 ∷ 2 ∷ 0 ∷ []) $ fjoin3 ! $
          nothing ! $ move ! (3 ∷ 4 ∷ 5 ∷ 2 ∷ 1 ∷ 0 ∷ []) $ group ! 6 $
          use1 𝓛 (later (some (λ (δ : GName). ‵ (fobs δ (code mid)) ⊛ ‵ (fbor κ (Body (L (length mid)) b at₁ δ)) ⊛ ‵ (flft κ q)
          ⊛ ‵ (follows (Array R 0) (Array R 0) γ δ filled) ⊛ (‵ (fbor κ (Cells front b o)) ⊛ ‵ (fbor κ (Cells back b at₂)) ⊛ ‵ ftrue))))
          (takes_beside 𝓛 (L n) (L (length mid)) filled κ q b o b at₁ γ Beside (emp 𝓤) mend
          (code (filled mid)) (code (filled mid)) mid) $ await ! tt $
          pick ! (λ δ. split3 ! $ move ! (2 ∷ []) $ split3 ! $ move ! (2 ∷ []) $ split3 ! $
          -- [the front's borrow; the back's; nothing; the token; what follows; the range's name; its borrow]
          move ! (0 ∷ 3 ∷ []) $
          use2 𝓛 (later (‵ ((ShrSlice ℓ κ R).own_val x (shr_slice_vals x)) ⊛ ‵ (flft κ q))) (shows_it ℓ κ q x r₁) $ await ! tt $ split ! $
          move ! (2 ∷ 1 ∷ []) $
          use2 𝓛 (later (‵ ((ShrSlice ℓ κ R).own_val z (shr_slice_vals z)) ⊛ ‵ (flft κ q))) (shows_it ℓ κ q z r₃) $ await ! tt $ split ! $
          move ! (5 ∷ 6 ∷ []) $ use2 𝓛 (‵ ((MutSlice ℓ κ R).own_val (y δ) (mut_slice_vals (y δ)))) (slice_of 𝓛 R ℓ κ b at₁ δ mid r₂) $
          -- [the range; the back; the token; the front; nothing; what follows]
          move ! (3 ∷ 0 ∷ 1 ∷ []) $ group ! 3 $ move ! (1 ∷ 3 ∷ []) $ join ! $ move ! (1 ∷ 0 ∷ []) $
          now ! $ show ! Cut δ $ keep ! (0 ∷ 1 ∷ []) $ done !)
