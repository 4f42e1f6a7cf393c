-- `split_scratch_slice_at_range` lends a range of a slice, and shows what lies beside it. Assumes `Logic`.
use mathlib.Core.Path.{◌≡◌, refl, sym, ap, ◌∙◌}
use Prim.Native.Nat.{ℕ, ◌+◌, ◌-◌, ◌*◌, ◌<◌, ◌≤◌, ◌^◌}
use native.Mathlib.Omega.{arith}
use mathlib.Core.List.{List, [], ◌∷◌, ◌++◌}
use lib.IntN.{ℤ}
use lib.ListN.{length, take, length-drop}
use lib.ListN.{drop as drop_l}
use seplogic.Ra.Ura.{Ura}
use base.Fraction.{full_share}
use mir.Syntax.{named, w32, w64}
use mir.Val.{Val, vstruct, vcons, vnil}
use base.Logic.{SProp, ent, sep, ex, emp, mono_l}
use base.Fml.{Fml, GName, Lft, Share, ftrue, flft}
use types.Logic.{Logic, sem}
use contract.Monad.{fact, fact_i}
use contract.Running.{tables}
use types.Kit.{‵, raw, ◌⊛◌, some, later, at_ret, ◌$◌, ◌∵◌, !, qed, by, move, keep, use0, use2, split, split3, join, pick, rewrite}
use types.Kit.{await, updating, now, show, fsplit, fjoin, suffices, done}
use types.Part.{whole, sub, agg}
use types.Run.{stop, fld, hop, from, addr, of_opd, lit, bin, and_then, no_more, first, blocks, exec, returns, enter}
use types.ByLocal.{alloc_all, pass_all, free_all, look_at, look_in_at, get, get_in, sets, sets_last, env}
use denote.Builtin.{i32, usize}
use denote.Copied.{sint_Copied}
use denote.Exit.{no, yes}
use denote.Plain.{uint_vals, uint_Tells}
use denote.RattleType.{owns}
use denote.Signature.{plain, mut_slice_of}
use denote.Slice.{MutSlice, Room, slice_val, mut_slice_vals, mut_slice_Tells}
use denote.Steps.{nothing, heard}
use denote.Struct.Tuple.{Tuple}
use denote.Triple.Walked.{Stays, stay_dropped, walk_of, Goes-dropped, Goes-spent_slice}
use borrow.Table.Elements.{at_mul}
use Rattle.std.proofs.raw_atomic.Walks.{proved, leaves}
use Rattle.scratch.specs.Parts.{LendsPart}
use Rattle.scratch.proofs.Cuts.{one, two, three, Cut, cuts}
use Rattle.scratch.proofs.PartLemmas.{length-before, length-within, length-upto, with_part-same}
use Rattle.scratch.proofs.ThreeSlices.{Three, Parts, word, made}
use Rattle.scratch.specs.contracts.parts.split_scratch_slice_at_range as f
use Rattle.scratch.proofs.parts.split_scratch_slice_at_range.Statement.{statement}
use Rattle.scratch.proofs.parts.split_scratch_slice_at_range.Code as code

abbrev stayed : Stays f.ended.signature.params f.ended.kept
stayed =
    let number = stay_dropped (plain (λ _. usize)) yes in
    (stay_dropped (mut_slice_of (0 ∷ []) tt (plain (λ _. i32))) no, (number, (number, tt)))

-- the three parts and their machine value, as the code computes it
module _ (κ : Lft) (b o : ℕ) (γ : GName) (xs : List ℤ) (start end : ℕ) where
  abbrev before : List ℤ
  before = take start xs

  abbrev within : List ℤ
  within = take (end - start) (drop_l start xs)

  abbrev behind : List ℤ
  behind = drop_l end xs

  abbrev All : List ℤ → Fml
  All zs = (MutSlice (named 0) κ i32).own_val (record { ref_ptr = (b, o); ghost_name = γ; now = zs }) (slice_val (b, o) (length xs) ∷ [])

  abbrev out : GName → Parts (named 0) κ i32
  out δ = (one i32 b o before within behind, two i32 b o before within behind δ, three i32 b o before within behind)

  abbrev v : Val
  v = vstruct (vcons (slice_val (b, o) start) (vcons (slice_val (b, start * 4 + o) (end - start))
      (vcons (slice_val (b, end * 4 + o) (length xs - end)) vnil)))

  module _ (ordered : start ≤ end) (inside : end ≤ length xs) (small : length xs * 4 < 2 ^ 63) where
    abbrev lb : length before ≡ start
    lb = length-before xs start end ordered inside

    abbrev lw : length within ≡ end - start
    lw = length-within xs start end ordered inside

    abbrev lu : length (before ++ within) ≡ end
    lu = length-upto xs start end ordered inside within lw

    v_is : (δ : GName) → v ≡ word (named 0) κ i32 (out δ)
    v_is δ =
        let p : start * 4 + o ≡ (out δ).1.ref_ptr.1 = sym (at_mul o 4 (length before) ∙ ap (λ (k : ℕ). k * 4 + o) lb) in
        let p' : end * 4 + o ≡ (out δ).2.ref_ptr.1 = sym (at_mul o 4 (length (before ++ within)) ∙ ap (λ (k : ℕ). k * 4 + o) lu) in
        let l : length xs - end ≡ length behind = sym (length-drop end xs) in
        λ k. vstruct (vcons (slice_val (b, o) (sym lb k)) (vcons (slice_val (b, p k) (sym lw k)) (vcons (slice_val (b, p' k) (l k)) vnil)))

    module _ {M : Type 1} {𝓤 : Ura M} (𝓛 : Logic 𝓤) (q : Share) where
      open 𝓛 use {H, A}

      abbrev Parted : GName → SProp 𝓤
      Parted δ = sep 𝓤 (sem 𝓛 ((Tuple (Three (named 0) κ i32)).own_val (out δ) (v ∷ [])))
          (sep 𝓤 (A.lft κ q) (sem 𝓛 (LendsPart (record { ref_ptr = (b, o); ghost_name = γ; now = xs }) start end (out δ).1)))

      parted : ent 𝓤 (sep 𝓤 (sem 𝓛 (All xs)) (A.lft κ q)) (H.⇛ (ex 𝓤 Parted))
      parted =
          let law = λ (z : Lft). (sint_Copied 𝓛 w32).shares full_share z in
          let r₁ : Room i32 (length before) = (omega (arith, lb), omega (arith, lb)) in
          let r₂ : Room i32 (length within) = (omega (arith, lw), omega (arith, lw)) in
          let r₃ : Room i32 (length behind) = (omega (arith, length-drop end xs), omega (arith, length-drop end xs)) in
          qed 𝓛 (‵ (All xs) ∷ ‵ (flft κ q) ∷ []) ∵ updating ! $
          rewrite ! 0 (λ (zs : List ℤ). ‵ (All zs)) (sym (with_part-same xs start end ordered)) refl $
          use2 𝓛 (later (some (λ (δ : GName). raw (Cut 𝓛 i32 law (named 0) κ q b o γ before within behind δ))))
          (cuts 𝓛 i32 law (named 0) κ q b o γ before within behind r₁ r₂ r₃ (slice_val (b, o) (length xs) ∷ [])) $ await ! tt $ pick ! (λ δ.
          now ! $ show ! Parted δ $
          by ! (mono_l 𝓤 (sep 𝓤 (A.lft κ q) (sem 𝓛 (LendsPart (record { ref_ptr = (b, o); ghost_name = γ; now = xs }) start end (out δ).1)))
          (made (named 0) κ i32 𝓛 (out δ) v (v_is δ))))

pub split_scratch_slice_at_range_spec : {M : Type 1} → statement M
split_scratch_slice_at_range_spec 𝓤 𝓛 𝓜 𝓡 wired =
    let c = f.clauses 𝓛 𝓜.mem 𝓡.returns in let W = walk_of 𝓛 f.ended stayed c in let 𝓣 = tables 𝓤 𝓛.H 𝓜 𝓡 𝓡.env in
    let goes = Goes-dropped 𝓛 1 (plain (λ _. usize)) yes (λ κs x w. refl) in
    proved 𝓛 f.ended stayed c 𝓜 𝓡 (Goes-spent_slice 𝓛 1 (0 ∷ []) tt (plain (λ _. i32)), (goes, (goes, tt)))
    f.Key.name code.function (code.unfolded 𝓤 𝓛.H 𝓜 𝓡 wired) (λ κs. (mut_slice_vals, (uint_vals w64, (uint_vals w64, tt))))
    (λ κs. (mut_slice_Tells (named 0) κs.0 i32, (uint_Tells w64, (uint_Tells w64, tt)))) (λ κs qs bounds a g are.
    let κ = κs.0 in let q = qs.0 in let b = a.0.ref_ptr.0 in let o = a.0.ref_ptr.1 in let γ = a.0.ghost_name in
    let xs : List ℤ = a.0.now in let start : ℕ = a.1.0 in let end : ℕ = a.1.1.0 in let n : ℕ = length xs in
    let rm : Room i32 n = are.0.0.1 in let fits : n < 2 ^ 64 = rm.0 in let small : n * 4 < 2 ^ 63 = rm.1 in
    let y : W.Ghost = ((κs, qs, bounds, a, (mut_slice_vals a.0, (uint_vals w64 start, (uint_vals w64 end, tt)))), tt) in
    qed 𝓛 (((‵ (flft κ q) ⊛ ‵ ftrue) ⊛ ‵ (owns (MutSlice (named 0) κ i32 ∷ usize ∷ usize ∷ []) a y.0.4))
    ∷ (raw (fact 𝓤 (start ≤ end)) ⊛ raw (fact 𝓤 (end ≤ n))) ∷ []) ∵
    move ! (1 ∷ []) $ split ! $ heard ! _ (λ ordered. heard ! _ (λ inside.
    let low : start * 4 < 2 ^ 64 = omega arith in let high : end * 4 < 2 ^ 64 = omega arith in
    let fits₁ : start < 2 ^ 64 = omega arith in let fits₂ : end - start < 2 ^ 64 = omega arith in
    let fits₃ : n - end < 2 ^ 64 = omega arith in
    split ! $ enter ! _ _ _ _ _ $
    alloc_all ! (λ l. pass_all ! refl (
      (tt, (tt, (record { fits = fits }, tt))),
      ((tt, record { fits = are.1.0.1 }), ((tt, record { fits = are.1.1.0.1 }), tt)),
    ) $
    -- n and p
    sets ! (of_opd ! (get_in ! (fld ! refl (stop !)) (sub ! 1 refl (whole !)))) refl (tt, record { fits = fits }) $
    sets ! (addr ! (from ! (fld ! refl (hop ! (look_in_at ! 1 (sub ! 0 refl (whole !))) (stop !))))) refl (tt, tt) $
    first ! $ blocks ! $
    -- the first part
    sets ! (agg ! (and_then ! (get ! refl) (and_then ! (get ! refl) (no_more !)))) refl (tt, (tt, (record { fits = fits₁ }, tt))) $
    -- the second
    sets ! (bin ! (get ! refl) (lit ! tt) (record { fits = low })) refl (tt, record { fits = low }) $
    sets ! (bin ! (get ! refl) (get ! refl) tt) refl (tt, tt) $
    sets ! (bin ! (get ! refl) (get ! refl) ordered) refl (tt, record { fits = fits₂ }) $
    sets ! (agg ! (and_then ! (get ! refl) (and_then ! (get ! refl) (no_more !)))) refl (tt, (tt, (record { fits = fits₂ }, tt))) $
    -- the third
    sets ! (bin ! (get ! refl) (lit ! tt) (record { fits = high })) refl (tt, record { fits = high }) $
    sets ! (bin ! (get ! refl) (get ! refl) tt) refl (tt, tt) $
    sets ! (bin ! (get ! refl) (get ! refl) inside) refl (tt, record { fits = fits₃ }) $
    sets ! (agg ! (and_then ! (get ! refl) (and_then ! (get ! refl) (no_more !)))) refl (tt, (tt, (record { fits = fits₃ }, tt))) $
    -- the tuple
    sets_last ! (agg ! (and_then ! (get ! refl) (and_then ! (get ! refl) (and_then ! (get ! refl) (no_more !))))) refl
    (tt, ((tt, (record { fits = fits₁ }, tt)), ((tt, (record { fits = fits₂ }, tt)), ((tt, (record { fits = fits₃ }, tt)), tt)))) $
    exec ! 𝓣.C 𝓣.Λ (env code.Mir.locals l) code.Mir.t-4 (at_ret _ (W.post y)) $ sets ! (of_opd ! (get ! refl)) refl
    (tt, ((tt, (record { fits = fits₁ }, tt)), ((tt, (record { fits = fits₂ }, tt)), ((tt, (record { fits = fits₃ }, tt)), tt)))) $
    -- [the token; the parameters; the locals]
    move ! (1 ∷ []) $ fsplit ! $ move ! (2 ∷ []) $ split ! $ move ! (2 ∷ 0 ∷ []) $
    let r : GName → Parts (named 0) κ i32 = out κ b o γ xs start end in
    let w : Val = v κ b o γ xs start end in
    use2 𝓛 (later (some (λ (δ : GName). ‵ ((Tuple (Three (named 0) κ i32)).own_val (r δ) (w ∷ [])) ⊛ ‵ (flft κ q)
    ⊛ ‵ (LendsPart a.0 start end (r δ).1))))
    (parted κ b o γ xs start end ordered inside small 𝓛 q) $ await ! tt $ pick ! (λ δ. split3 ! $
    returns ! (look_at ! 0 refl) $ free_all ! refl $ keep ! (0 ∷ 1 ∷ 2 ∷ []) $
    suffices ! _ (leaves 𝓛 f.ended stayed c y w (r δ) (tt, (tt, (tt, tt))) (tt, (tt, (tt, tt)))) $
    use0 𝓛 (raw (fact 𝓤 ((r δ).2.now ≡ drop_l end xs))) (fact_i 𝓤 _ (emp 𝓤) refl) $
    use0 𝓛 (raw (fact 𝓤 ((r δ).1.now ≡ take (end - start) (drop_l start xs)))) (fact_i 𝓤 _ (emp 𝓤) refl) $
    use0 𝓛 (raw (fact 𝓤 ((r δ).0.now ≡ take start xs))) (fact_i 𝓤 _ (emp 𝓤) refl) $
    nothing ! $ move ! (5 ∷ 0 ∷ []) $ join ! $ nothing ! $ nothing ! $ fjoin ! $ nothing ! $ fjoin ! $ nothing ! $ fjoin ! $
    -- [nothing of the parameters; the token; three facts; the parts; what is lent]
    move ! (1 ∷ 0 ∷ 5 ∷ 2 ∷ 3 ∷ 4 ∷ 6 ∷ []) $ done !)))))
