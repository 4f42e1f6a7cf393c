-- `split_scratch_vec_at_range` lends all the numbers, and of these the run. Assumes `Logic`.
use mathlib.Core.Path.{◌≡◌, refl, ap, ◌∙◌}
use Prim.Native.Nat.{ℕ, ◌-◌, ◌≤◌}
use native.Mathlib.Omega.{arith}
use mathlib.Core.List.{List, [], ◌∷◌}
use lib.IntN.{ℤ}
use lib.ListN.{length, take}
use lib.ListN.{drop as drop_l}
use seplogic.Ra.Ura.{Ura}
use mir.Syntax.{named, w64}
use mir.Val.{Val}
use base.Logic.{emp, id⊢}
use base.Fml.{Lft, Share, ftrue, flft}
use contract.Monad.{fact, fact_i}
use contract.Running.{tables}
use types.Kit.{Item, ‵, raw, ◌⊛◌, some, given, learn, later, ◌$◌, ◌∵◌, !, qed, move, keep, use0, use1, use2, split, split3, join, pick}
use types.Kit.{drop, rewrite, await, fjoin, suffices, done}
use types.Run.{stop, addr, and_then, no_more, returns, enter}
use types.ByLocal.{alloc_all, pass_all, free_all, look_at, get, through, sets, lands_as}
use denote.Array.{Array}
use denote.Builtin.{i32, usize}
use denote.Exit.{no, yes}
use denote.Follow.{follows_then}
use denote.Laws.{shows}
use denote.Plain.{uint_vals, uint_Tells}
use denote.Ref.{MutBor, MutRef, mut_vals, mut_Tells}
use denote.Signature.{plain, mut_ref_to}
use denote.Slice.{MutSlice, mut_slice_vals}
use denote.Steps.{nothing, heard, only, peeks}
use denote.Struct.Tuple.{Tuple}
use denote.Triple.Call.{calls_at}
use denote.Triple.Clauses.{Lasts, lasts}
use denote.Triple.Entry.{Args}
use denote.Triple.Spec.{triple_of}
use denote.Triple.Table.{framed}
use denote.Triple.Walked.{Stays, stay_dropped, walk_of, Goes-dropped, Goes-spent_ref}
use Rattle.std.proofs.raw_atomic.Walks.{proved, leaves}
use Rattle.std.specs.Borrow.{Lends}
use Rattle.std.specs.Global.{Vec}
use Rattle.std.specs.Vec.{with_items}
use Rattle.scratch.specs.Parts.{with_part, LendsPart}
use Rattle.scratch.specs.Rows.{numbers_row}
use Rattle.scratch.specs.VecParts.{LendsVec}
use Rattle.scratch.proofs.ThreeSlices.{Three, Parts, word, Told, told}
use Rattle.scratch.specs.contracts.numbers.split_scratch_vec_at_range as f
use Rattle.scratch.specs.contracts.numbers.view_scratch_vec_as_mut_slice as all
use Rattle.scratch.specs.contracts.parts.split_scratch_slice_at_range as cut
use Rattle.scratch.proofs.numbers.view_scratch_vec_as_mut_slice.Met as all-thm
use Rattle.scratch.proofs.parts.split_scratch_slice_at_range.Met as cut-thm
use Rattle.scratch.proofs.numbers.split_scratch_vec_at_range.Statement.{statement}
use Rattle.scratch.proofs.numbers.split_scratch_vec_at_range.Code as code

abbrev stayed : Stays f.ended.signature.params f.ended.kept
stayed =
    let number = stay_dropped (plain (λ _. usize)) yes in
    (stay_dropped (mut_ref_to (0 ∷ []) tt (plain (λ _. numbers_row))) no, (number, (number, tt)))

module _ {M : Type 1} (𝓤 : Ura M) (κ : Lft) (q : Share) where
  abbrev Token : Item 𝓤
  Token = ‵ (flft κ q) ⊛ ‵ ftrue

  -- what the two calls return
  abbrev Whole : MutBor (Vec ℤ) → Val → Item 𝓤
  Whole v u = later (some (λ (r : MutBor (List ℤ)). (Token ⊛ ‵ ((MutSlice (named 0) κ i32).own_val r (u ∷ [])))
      ⊛ some (λ (ws : Lasts all.ended (κ, tt) (v, tt)). ‵ (lasts all.ended (κ, tt) (v, tt) ws)
      ⊛ (raw (fact 𝓤 (r.now ≡ v.now.items)) ⊛ ‵ (LendsVec v r)))))

  module _ (a : Args cut.signature (κ, tt)) where
    abbrev start : ℕ
    start = a.1.0

    abbrev end : ℕ
    end = a.1.1.0

    abbrev Facts : Parts (named 0) κ i32 → Item 𝓤
    Facts s = raw (fact 𝓤 (s.0.now ≡ take start a.0.now)) ⊛ raw (fact 𝓤 (s.1.now ≡ take (end - start) (drop_l start a.0.now)))
        ⊛ raw (fact 𝓤 (s.2.now ≡ drop_l end a.0.now)) ⊛ ‵ (LendsPart a.0 start end s.1)

    abbrev Cut : Val → Item 𝓤
    Cut v = later (some (λ (s : Parts (named 0) κ i32). (Token ⊛ ‵ ((Tuple (Three (named 0) κ i32)).own_val s (v ∷ [])))
        ⊛ some (λ (ws : Lasts cut.ended (κ, tt) a). ‵ (lasts cut.ended (κ, tt) a ws) ⊛ Facts s)))

pub split_scratch_vec_at_range_spec : {M : Type 1} → statement M
split_scratch_vec_at_range_spec 𝓤 𝓛 𝓜 𝓡 wired =
    let c = f.clauses 𝓛 𝓜.mem 𝓡.returns in let W = walk_of 𝓛 f.ended stayed c in let 𝓣 = tables 𝓤 𝓛.H 𝓜 𝓡 𝓡.env in
    let goes = Goes-dropped 𝓛 1 (plain (λ _. usize)) yes (λ κs x w. refl) in
    proved 𝓛 f.ended stayed c 𝓜 𝓡 (Goes-spent_ref 𝓛 1 (0 ∷ []) tt (plain (λ _. numbers_row)), (goes, (goes, tt)))
    f.Key.name code.function (code.unfolded 𝓤 𝓛.H 𝓜 𝓡 wired) (λ κs. (mut_vals, (uint_vals w64, (uint_vals w64, tt))))
    (λ κs. (mut_Tells (named 0) κs.0 numbers_row, (uint_Tells w64, (uint_Tells w64, tt)))) (λ κs qs bounds a g are.
    let κ = κs.0 in let q = qs.0 in let xs : List ℤ = a.0.now.items in let start : ℕ = a.1.0 in let end : ℕ = a.1.1.0 in
    let y : W.Ghost = ((κs, qs, bounds, a, (mut_vals a.0, (uint_vals w64 start, (uint_vals w64 end, tt)))), tt) in
    let G = triple_of 𝓛 all.signature (all.spec 𝓛 𝓜.mem 𝓡.returns) in
    let z : G.Ghost = ((κs, qs, bounds, (a.0, tt), (mut_vals a.0, tt)), tt) in
    qed 𝓛 ((Token 𝓤 κ q ⊛ (‵ ((MutRef (named 0) κ numbers_row).own_val a.0 (mut_vals a.0))
    ⊛ ‵ (usize.own_val start (uint_vals w64 start)) ⊛ ‵ (usize.own_val end (uint_vals w64 end)) ⊛ ‵ ftrue))
    ∷ (raw (fact 𝓤 (start ≤ end)) ⊛ raw (fact 𝓤 (end ≤ a.0.now.len))) ∷ []) ∵
    move ! (1 ∷ []) $ split ! $ heard ! _ (λ ordered. heard ! _ (λ inside.
    split ! $ move ! (1 ∷ []) $ split3 ! $ move ! (0 ∷ 3 ∷ []) $ enter ! _ _ _ _ _ $
    alloc_all ! (λ l. pass_all ! refl ((tt, tt), ((tt, record { fits = are.1.0.1 }), ((tt, record { fits = are.1.1.0.1 }), tt))) $
    sets ! (addr ! (through ! refl (stop !))) refl (tt, tt) $
    -- [the Vec; the token; the two numbers]
    nothing ! $ move ! (1 ∷ 0 ∷ []) $ join ! $ move ! (1 ∷ 0 ∷ []) $ join ! $ nothing ! $ move ! (1 ∷ 0 ∷ []) $
    use2 𝓛 (raw (G.pre z)) (id⊢ 𝓤 _) $
    calls_at ! (framed 𝓤 𝓛.H 𝓜 𝓣) G (all-thm.met 𝓤 𝓛 𝓜 𝓡 (code.calls-scratch::numbers::view_scratch_vec_as_mut_slice 𝓡.env wired)) z
    (and_then ! (get ! refl) (no_more !)) (λ u. use1 𝓛 (Whole 𝓤 κ q a.0 u) (id⊢ 𝓤 _) $ await ! tt $ pick ! (λ r.
    split ! $ split ! $ move ! (2 ∷ []) $ pick ! (λ ws. split ! $ drop ! $ split ! $ heard ! _ (λ same.
    -- [what the Vec lends; the token; the slice; the two numbers]
    move ! (2 ∷ []) $ peeks ! (MutSlice (named 0) κ i32) _ (shows 𝓛 (MutSlice (named 0) κ i32)) r (u ∷ []) (λ is.
    rewrite ! 0 (λ (us : List Val). ‵ ((MutSlice (named 0) κ i32).own_val r us)) is.0.0 refl $
    lands_as ! (ap only is.0.0) refl (tt, (tt, (record { fits = is.0.1.0 }, tt))) $
    let inner : end ≤ length r.now = omega (arith, inside, a.0.now.ok.0, ap length same) in
    let K = triple_of 𝓛 cut.signature (cut.spec 𝓛 𝓜.mem 𝓡.returns) in
    let b : Args cut.signature κs = (r, (start, (end, tt))) in
    let z' : K.Ghost = ((κs, qs, bounds, b, (mut_slice_vals r, (uint_vals w64 start, (uint_vals w64 end, tt)))), tt) in
    move ! (3 ∷ 4 ∷ 0 ∷ []) $ join ! $ move ! (1 ∷ 0 ∷ []) $ join ! $ move ! (2 ∷ 0 ∷ []) $ join ! $
    use0 𝓛 (raw (fact 𝓤 (end ≤ length r.now))) (fact_i 𝓤 _ (emp 𝓤) inner) $
    use0 𝓛 (raw (fact 𝓤 (start ≤ end))) (fact_i 𝓤 _ (emp 𝓤) ordered) $ join ! $
    move ! (1 ∷ 0 ∷ []) $ use2 𝓛 (raw (K.pre z')) (id⊢ 𝓤 _) $
    calls_at ! (framed 𝓤 𝓛.H 𝓜 𝓣) K (cut-thm.met 𝓤 𝓛 𝓜 𝓡 (code.calls-scratch::parts::split_scratch_slice_at_range 𝓡.env wired)) z'
    (and_then ! (get ! refl) (and_then ! (get ! refl) (and_then ! (get ! refl) (no_more !)))) (λ v.
    use1 𝓛 (Cut 𝓤 κ q b v) (id⊢ 𝓤 _) $ await ! tt $ pick ! (λ s. split ! $ split ! $ move ! (2 ∷ []) $ pick ! (λ ws'. split ! $ drop ! $
    split ! $ heard ! _ (λ e₁. split ! $ heard ! _ (λ e₂. split ! $ heard ! _ (λ e₃.
    -- [what the slice lends; the token; the parts; what the Vec lends]
    let Lent : List ℤ → Item 𝓤 = λ ys. ‵ (Lends numbers_row (Array i32 0) a.0 s.1 (λ w. with_items a.0.now (with_part ys start end w))) in
    let Out : Val → Item 𝓤 = λ w. ‵ ((Tuple (Three (named 0) κ i32)).own_val s (w ∷ [])) in
    move ! (3 ∷ 0 ∷ []) $ use2 𝓛 (Lent r.now) (follows_then 𝓛 numbers_row (Array i32 0) (Array i32 0)
    (with_items a.0.now) (with_part r.now start end) a.0.ghost_name r.ghost_name s.1.ghost_name) $ rewrite ! 0 Lent same refl $
    move ! (2 ∷ []) $ use1 𝓛 (given (Told (named 0) κ i32 s v) (Out v)) (told (named 0) κ i32 𝓛 s v) $ learn ! (λ t. lands_as ! t.0 refl
    (tt, ((tt, (record { fits = t.1 }, tt)), ((tt, (record { fits = t.2 }, tt)), ((tt, (record { fits = t.3 }, tt)), tt)))) $
    rewrite ! 0 Out t.0 refl $ returns ! (look_at ! 0 refl) $ free_all ! refl $ keep ! (0 ∷ 1 ∷ 2 ∷ []) $
    suffices ! _ (leaves 𝓛 f.ended stayed c y (word (named 0) κ i32 s) s (tt, (tt, (tt, tt))) (tt, (tt, (tt, tt)))) $
    use0 𝓛 (raw (fact 𝓤 (s.2.now ≡ drop_l end xs))) (fact_i 𝓤 _ (emp 𝓤) (e₃ ∙ ap (drop_l end) same)) $
    use0 𝓛 (raw (fact 𝓤 (s.1.now ≡ take (end - start) (drop_l start xs))))
    (fact_i 𝓤 _ (emp 𝓤) (e₂ ∙ ap (λ (ys : List ℤ). take (end - start) (drop_l start ys)) same)) $
    use0 𝓛 (raw (fact 𝓤 (s.0.now ≡ take start xs))) (fact_i 𝓤 _ (emp 𝓤) (e₁ ∙ ap (take start) same)) $
    nothing ! $ nothing ! $ fjoin ! $ nothing ! $ fjoin ! $ nothing ! $ fjoin ! $
    -- [nothing of the parameters; three facts; the parts; what is lent; the token]
    move ! (6 ∷ 0 ∷ 4 ∷ 1 ∷ 2 ∷ 3 ∷ 5 ∷ []) $ done !))))))))))))))))
