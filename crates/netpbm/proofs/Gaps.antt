-- What the scanner passes over is white space and comments, and the other way round.
use Rattle.std.proofs.Common.{◌≡◌, ℕ, ◌⊎◌, inl, inr, true, false, not, eqb}
use Rattle.std.proofs.Common.{◌||◌, List, [], ◌∷◌, ◌++◌, refl, sym, ap, subst, ◌∙◌, arith, append_assoc}
use Rattle.std.specs.List.{list_all}
use Rattle.std.proofs.lemmas.Bool.{cases_Bool, false≢true, and_parts, and_from, eqb-true}
use Rattle.netpbm.specs.Text.{is_white, is_comment_end, is_comment_byte}
use Rattle.netpbm.specs.Scanning.{may_stand}
use Rattle.netpbm.specs.Grammar.{Filler, nothing, white, comment}
use Rattle.netpbm.specs.Faults.{CutFiller, ended, open_comment}
use Rattle.netpbm.proofs.Scans.{is_filler, is_cut_filler}
use Rattle.netpbm.proofs.TextLaws.{white_is}

-- ---- from the scanner

record CommentThere (xs : List ℕ) : Type 0 where
  pub body : List ℕ
  pub end : ℕ
  pub rest : List ℕ
  pub parts : xs ≡ body ++ end ∷ rest
  pub body_is : list_all is_comment_byte body ≡ true
  pub end_is : is_comment_end end ≡ true

white_or_hash : (b : ℕ) → (eqb b 35 ≡ false) → (is_white b || eqb b 35) ≡ true → is_white b ≡ true
white_or_hash b other h = elim (cases_Bool (is_white b)) [
  | inl holds ↦ holds
  | inr fails ↦ absurd (false≢true (sym (ap (λ w. w || eqb b 35) fails ∙ other) ∙ h))
]

-- one more byte of a comment in front
more_comment : (b : ℕ) (xs : List ℕ) → is_comment_end b ≡ false → CommentThere xs → CommentThere (b ∷ xs)
more_comment b xs goes_on there = record {
  body = b ∷ there.body;
  end = there.end;
  rest = there.rest;
  parts = ap (λ l. b ∷ l) there.parts;
  body_is = and_from (is_comment_byte b) (list_all is_comment_byte there.body) (ap not goes_on) there.body_is;
  end_is = there.end_is;
}

end_here : (b : ℕ) (xs : List ℕ) → is_comment_end b ≡ true → CommentThere (b ∷ xs)
end_here b xs ends = record { body = []; end = b; rest = xs; parts = refl; body_is = refl; end_is = ends }

FillerAt : List ℕ → Type 0
FillerAt xs = (is_filler false xs ≡ true → Filler xs) × (is_filler true xs ≡ true → (c : CommentThere xs) × Filler c.rest)

from_scan : (xs : List ℕ) → FillerAt xs
unfolding FillerAt end_here more_comment
from_scan [] = ((λ h. nothing), (λ h. absurd (false≢true h)))
from_scan (b ∷ xs) = (outside (from_scan xs), inside (from_scan xs))
  where
    opened : eqb b 35 ≡ true → (c : CommentThere xs) × Filler c.rest → Filler (b ∷ xs)
    opened hash there =
        let c = there.0 in
        subst Filler (ap (λ (n : ℕ). n ∷ (c.body ++ c.end ∷ c.rest)) (sym (eqb-true b 35 hash)) ∙ ap (λ l. b ∷ l) (sym c.parts))
        (comment c.body c.end c.rest c.body_is c.end_is there.1)

    outside : FillerAt xs → is_filler false (b ∷ xs) ≡ true → Filler (b ∷ xs)
    outside later h =
        let both = and_parts (may_stand false b) (is_filler (eqb b 35) xs) h in
        elim (cases_Bool (eqb b 35)) [
          | inl hash ↦ opened hash (later.1 (ap (λ o. is_filler o xs) (sym hash) ∙ both.1))
          | inr other ↦ white b xs (white_or_hash b other both.0) (later.0 (ap (λ o. is_filler o xs) (sym other) ∙ both.1))
        ]

    inside : FillerAt xs → is_filler true (b ∷ xs) ≡ true → (c : CommentThere (b ∷ xs)) × Filler c.rest
    inside later h = elim (cases_Bool (is_comment_end b)) [
      | inl ends ↦ (end_here b xs ends, later.0 (ap (λ e. is_filler (not e) xs) (sym ends) ∙ h))
      | inr goes_on ↦ let there = later.1 (ap (λ e. is_filler (not e) xs) (sym goes_on) ∙ h) in (more_comment b xs goes_on there.0, there.1)
    ]

pub filler_from : (xs : List ℕ) → is_filler false xs ≡ true → Filler xs
unfolding FillerAt end_here more_comment
filler_from xs h = (from_scan xs).0 h

-- ---- the same, cut in its last comment

behind_white : (b : ℕ) (xs : List ℕ) → is_white b ≡ true → CutFiller xs → CutFiller (b ∷ xs)
behind_white b _ is (ended filler f) = ended (b ∷ filler) (white b filler is f)
behind_white b _ is (open_comment filler body f all) = open_comment (b ∷ filler) body (white b filler is f) all

behind_comment : (body : List ℕ) (end : ℕ) (rest : List ℕ) → list_all is_comment_byte body ≡ true → is_comment_end end ≡ true
    → CutFiller rest → CutFiller (35 ∷ (body ++ end ∷ rest))
behind_comment body end _ body_is end_is (ended filler f) = ended (35 ∷ (body ++ end ∷ filler)) (comment body end filler body_is end_is f)
behind_comment body end _ body_is end_is (open_comment filler last f all) =
    subst CutFiller (ap (λ l. 35 ∷ l) (append_assoc body (end ∷ filler) (35 ∷ last)))
    (open_comment (35 ∷ (body ++ end ∷ filler)) last (comment body end filler body_is end_is f) all)

CutAt : List ℕ → Type 0
CutAt xs =
    (is_cut_filler false xs ≡ true → CutFiller xs)
    × (is_cut_filler true xs ≡ true → (list_all is_comment_byte xs ≡ true) ⊎ ((c : CommentThere xs) × CutFiller c.rest))

from_cut : (xs : List ℕ) → CutAt xs
unfolding CutAt end_here more_comment
from_cut [] = ((λ h. ended [] nothing), (λ h. inl refl))
from_cut (b ∷ xs) = (outside (from_cut xs), inside (from_cut xs))
  where
    opened : eqb b 35 ≡ true → (list_all is_comment_byte xs ≡ true) ⊎ ((c : CommentThere xs) × CutFiller c.rest) → CutFiller (b ∷ xs)
    opened hash (inl all) = subst (λ (n : ℕ). CutFiller (n ∷ xs)) (sym (eqb-true b 35 hash)) (open_comment [] xs nothing all)
    opened hash (inr there) =
        let c = there.0 in
        subst CutFiller (ap (λ (n : ℕ). n ∷ (c.body ++ c.end ∷ c.rest)) (sym (eqb-true b 35 hash)) ∙ ap (λ l. b ∷ l) (sym c.parts))
        (behind_comment c.body c.end c.rest c.body_is c.end_is there.1)

    outside : CutAt xs → is_cut_filler false (b ∷ xs) ≡ true → CutFiller (b ∷ xs)
    outside later h =
        let both = and_parts (may_stand false b) (is_cut_filler (eqb b 35) xs) h in
        elim (cases_Bool (eqb b 35)) [
          | inl hash ↦ opened hash (later.1 (ap (λ o. is_cut_filler o xs) (sym hash) ∙ both.1))
          | inr other ↦ behind_white b xs (white_or_hash b other both.0) (later.0 (ap (λ o. is_cut_filler o xs) (sym other) ∙ both.1))
        ]

    inside : CutAt xs → is_cut_filler true (b ∷ xs) ≡ true
        → (list_all is_comment_byte (b ∷ xs) ≡ true) ⊎ ((c : CommentThere (b ∷ xs)) × CutFiller c.rest)
    inside later h = elim (cases_Bool (is_comment_end b)) [
      | inl ends ↦ inr (end_here b xs ends, later.0 (ap (λ e. is_cut_filler (not e) xs) (sym ends) ∙ h))
      | inr goes_on ↦ elim (later.1 (ap (λ e. is_cut_filler (not e) xs) (sym goes_on) ∙ h)) [
        | inl all ↦ inl (and_from (is_comment_byte b) (list_all is_comment_byte xs) (ap not goes_on) all)
        | inr there ↦ inr (more_comment b xs goes_on there.0, there.1)
      ]
    ]

pub cut_from : (xs : List ℕ) → is_cut_filler false xs ≡ true → CutFiller xs
unfolding CutAt end_here more_comment
cut_from xs h = (from_cut xs).0 h

-- ---- to the scanner

white_no_hash : (b : ℕ) → is_white b ≡ true → eqb b 35 ≡ false
white_no_hash b is = elim (cases_Bool (eqb b 35)) [
  | inl hash ↦ absurd (omega (arith, white_is b is, eqb-true b 35 hash))
  | inr other ↦ other
]

scans_body : (body : List ℕ) (end : ℕ) (rest : List ℕ) → list_all is_comment_byte body ≡ true → is_comment_end end ≡ true
    → is_filler false rest ≡ true → is_filler true (body ++ end ∷ rest) ≡ true
scans_body [] end rest body_is end_is later = ap (λ e. is_filler (not e) rest) end_is ∙ later
scans_body (b ∷ body) end rest body_is end_is later =
    let both = and_parts (is_comment_byte b) (list_all is_comment_byte body) body_is in
    ap (λ o. is_filler o (body ++ end ∷ rest)) both.0 ∙ scans_body body end rest both.1 end_is later

pub filler_scans : (xs : List ℕ) → Filler xs → is_filler false xs ≡ true
filler_scans _ nothing = refl
filler_scans _ (white b filler is f) =
    and_from (may_stand false b) (is_filler (eqb b 35) filler) (ap (λ w. w || eqb b 35) is)
    (ap (λ o. is_filler o filler) (white_no_hash b is) ∙ filler_scans filler f)
filler_scans _ (comment body end filler body_is end_is f) = scans_body body end filler body_is end_is (filler_scans filler f)
