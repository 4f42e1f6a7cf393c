-- Reading a header: what it says, or its first fault.
use Rattle.std.proofs.Common.{◌≡◌, ℕ, ◌+◌, ◌<◌, ◌≤◌, ◌⊎◌, inl, inr, Bool, true, false, cond, not, eqb, ltb, List, [], ◌∷◌, ◌++◌}
use Rattle.std.proofs.Common.{length, drop, Result, Ok, Err, refl, sym, ap, subst, ◌∙◌, arith, drop_at, append_assoc, append-nil}
use Rattle.std.specs.Prelude.{MatchResult}
use Rattle.std.proofs.lemmas.Bool.{cond-true, cond-false, le-ltb, eq-eqb, ne_eqb, cases_eq}
use Rattle.std.proofs.lemmas.List.{length-append}
use Rattle.std.specs.Char.{is_ascii_digit}
use Rattle.netpbm.specs.declared.fault.PicFault.{PicFault}
use Rattle.netpbm.specs.declared.fault.PicFault.TheVariants.{OtherFormat, HeaderCut, BadSize, BadMax}
use Rattle.netpbm.specs.declared.header.RasterCoding.{RasterCoding}
use Rattle.netpbm.specs.declared.header.RasterCoding.TheVariants.{Plain, Raw}
use Rattle.netpbm.specs.declared.header.PictureHeader.{PictureHeader}
use Rattle.netpbm.specs.Image.{InRange}
use Rattle.netpbm.specs.Text.{is_white}
use Rattle.netpbm.specs.Grammar.{magic, IsNumber, nothing, IsGap, IsFields, NoDigit}
use Rattle.netpbm.specs.Faults.{ended, Fit, IsHeaderFront, EndsInHeader, HasBadHeaderByte, HasBadField, HasCommentBehindMax, IsFault}
use Rattle.netpbm.specs.Reading.{◌>>=◌, kind_of, magic_read, size_read, max_read, white_read, header_read}
use Rattle.netpbm.proofs.Gaps.{filler_scans}
use Rattle.netpbm.proofs.TextLaws.{white_no_digit, gap_no_digit}
use Rattle.netpbm.proofs.NumberLaws.{behind, nil_or_cons, StopThere, FieldThere, BadThere, FieldFails, WhiteThere, WhiteFails}
use Rattle.netpbm.proofs.NumberLaws.{size_view, max_view, white_view, size_complete, max_complete, white_complete}

-- ---- the first two bytes

abbrev pub MagicThere : List ℕ → RasterCoding × ℕ → Type 0
MagicThere bytes m = ((m.1 ≡ 1) ⊎ (m.1 ≡ 3)) × (bytes ≡ magic m.0 m.1 ++ drop 2 bytes) × (2 ≤ length bytes)

abbrev pub MagicView : List ℕ → Result (RasterCoding × ℕ) PicFault → Type 0
MagicView bytes r = MatchResult r (MagicThere bytes) (IsFault bytes)

kind_view : (k : ℕ) (rest : List ℕ) → MagicView (80 ∷ k ∷ rest) (kind_of k)
kind_view k rest =
    let bytes = 80 ∷ k ∷ rest in
    let V = MagicView bytes in
    let named = λ (b : ℕ) (e : k ≡ b). ap (λ (c : ℕ). 80 ∷ c ∷ rest) e in
    elim (cases_eq k 50) [
      | inl a ↦ subst V (sym (cond-true (eqb k 50) _ _ (eq-eqb k 50 a))) (inl refl, named 50 a, omega arith)
      | inr na ↦ subst V (sym (cond-false (eqb k 50) _ _ (ne_eqb k 50 na))) (elim (cases_eq k 51) [
        | inl b ↦ subst V (sym (cond-true (eqb k 51) _ _ (eq-eqb k 51 b))) (inr refl, named 51 b, omega arith)
        | inr nb ↦ subst V (sym (cond-false (eqb k 51) _ _ (ne_eqb k 51 nb))) (elim (cases_eq k 53) [
          | inl c ↦ subst V (sym (cond-true (eqb k 53) _ _ (eq-eqb k 53 c))) (inl refl, named 53 c, omega arith)
          | inr nc ↦ subst V (sym (cond-false (eqb k 53) _ _ (ne_eqb k 53 nc))) (elim (cases_eq k 54) [
            | inl d ↦ subst V (sym (cond-true (eqb k 54) _ _ (eq-eqb k 54 d))) (inr refl, named 54 d, omega arith)
            | inr nd ↦ subst V (sym (cond-false (eqb k 54) _ _ (ne_eqb k 54 nd))) (inr (k, rest, refl, refl, na, nb, nc, nd))
          ])
        ])
      ])
    ]

magic_long : (p k : ℕ) (rest : List ℕ) → magic_read (p ∷ k ∷ rest) ≡ cond (not (eqb p 80)) (Err (OtherFormat 0)) (kind_of k)
unfolding magic_read
magic_long p k rest =
    let bytes = p ∷ k ∷ rest in
    let some : eqb (length bytes) 0 ≡ false = ne_eqb (length bytes) 0 (λ e. omega arith) in
    let long : ltb (length bytes) 2 ≡ false = le-ltb (length bytes) 2 (omega arith) in
    cond-false (eqb (length bytes) 0) _ _ some
    ∙ ap (λ b. cond (not (eqb p 80)) (Err (OtherFormat 0)) (cond b (Err (HeaderCut 1)) (kind_of k))) long

pub magic_view : (bytes : List ℕ) → MagicView bytes (magic_read bytes)
unfolding magic_read
magic_view [] = (refl, inl refl)
magic_view (p ∷ []) =
    let V = MagicView (p ∷ []) in
    elim (cases_eq p 80) [
      | inl e ↦ subst V (sym (cond-false (not (eqb p 80)) _ _ (ap not (eq-eqb p 80 e)))) (refl, inr (inl (ap (λ (c : ℕ). c ∷ []) e)))
      | inr ne ↦ subst V (sym (cond-true (not (eqb p 80)) _ _ (ap not (ne_eqb p 80 ne)))) (inl (p, [], refl, refl, ne))
    ]
magic_view (p ∷ k ∷ rest) =
    let V = MagicView (p ∷ k ∷ rest) in
    elim (cases_eq p 80) [
      | inl e ↦
          subst V (sym (magic_long p k rest ∙ cond-false (not (eqb p 80)) _ _ (ap not (eq-eqb p 80 e))))
          (subst (λ (c : ℕ). MagicView (c ∷ k ∷ rest) (kind_of k)) (sym e) (kind_view k rest))
      | inr ne ↦ subst V (sym (magic_long p k rest ∙ cond-true (not (eqb p 80)) _ _ (ap not (ne_eqb p 80 ne))))
          (inl (p, k ∷ rest, refl, refl, ne))
    ]

pub magic_complete : (coding : RasterCoding) (colours : ℕ) (rest : List ℕ) → (colours ≡ 1) ⊎ (colours ≡ 3)
    → magic_read (magic coding colours ++ rest) ≡ Ok (coding, colours)
magic_complete Plain colours rest h = elim h [ inl e ↦ rw e (magic_long 80 50 rest) | inr e ↦ rw e (magic_long 80 51 rest) ]
magic_complete Raw colours rest h = elim h [ inl e ↦ rw e (magic_long 80 53 rest) | inr e ↦ rw e (magic_long 80 54 rest) ]

length-magic : (coding : RasterCoding) (colours : ℕ) → length (magic coding colours) ≡ 2
length-magic Plain colours = refl
length-magic Raw colours = refl

-- ---- a number more

IsFields-push : (ns : List ℕ) (f gap digits : List ℕ) (n : ℕ) → IsFields ns f → IsGap gap → IsNumber digits n
    → IsFields (ns ++ n ∷ []) (f ++ (gap ++ digits))
IsFields-push [] f gap digits n e g d =
    (gap, digits, [], ap (λ (l : List ℕ). l ++ (gap ++ digits)) e ∙ ap (λ (l : List ℕ). gap ++ l) (sym (append-nil digits)), g, d, refl)
IsFields-push (m ∷ ms) f gap digits n (g', d', r, e, hg, hd, hr) g d = (
  g',
  d',
  r ++ (gap ++ digits),
  ap (λ (l : List ℕ). l ++ (gap ++ digits)) e ∙ append_assoc g' (d' ++ r) (gap ++ digits)
      ∙ ap (λ (l : List ℕ). g' ++ l) (append_assoc d' r (gap ++ digits)),
  hg,
  hd,
  IsFields-push ms r gap digits n hr g d,
)

pub front_more : (coding : RasterCoding) (colours n : ℕ) (numbers front gap digits : List ℕ) → IsHeaderFront coding colours numbers front
    → IsGap gap → IsNumber digits n → Fit (4096 ∷ 4096 ∷ 65535 ∷ []) (numbers ++ n ∷ [])
    → IsHeaderFront coding colours (numbers ++ n ∷ []) (front ++ (gap ++ digits))
front_more coding colours n numbers front gap digits h g d fit =
    record {
      fields = h.fields ++ (gap ++ digits);
      parts = ap (λ (l : List ℕ). l ++ (gap ++ digits)) h.parts ∙ append_assoc (magic coding colours) h.fields (gap ++ digits);
      colours_are = h.colours_are;
      fields_are = IsFields-push numbers h.fields gap digits n h.fields_are g d;
      ranges = fit;
    }

-- a place behind the first numbers: what stands before it, and what follows
pub record IsAt (bytes : List ℕ) (at : ℕ) (coding : RasterCoding) (colours : ℕ) (numbers front rest : List ℕ) : Type 0 where
  pub whole : bytes ≡ front ++ rest
  pub place : at ≡ length front
  pub front_is : IsHeaderFront coding colours numbers front
  pub taken : 0 < length numbers → NoDigit rest

pub rest_at : (bytes : List ℕ) (at : ℕ) (coding : RasterCoding) (colours : ℕ) (numbers front rest : List ℕ)
    → IsAt bytes at coding colours numbers front rest → drop at bytes ≡ rest
rest_at bytes at coding colours numbers front rest h = ap (drop at) h.whole ∙ drop_at front rest at (sym h.place)

pub within_at : (bytes : List ℕ) (at : ℕ) (coding : RasterCoding) (colours : ℕ) (numbers front rest : List ℕ)
    → IsAt bytes at coding colours numbers front rest → at ≤ length bytes
within_at bytes at coding colours numbers front rest h = omega (arith, h.place, ap length h.whole, length-append front rest)

module _ (bytes : List ℕ) (at : ℕ) (coding : RasterCoding) (colours : ℕ) (numbers front rest : List ℕ)
    (here : IsAt bytes at coding colours numbers front rest) where
  parts_at : (xs ys : List ℕ) → drop at bytes ≡ xs ++ ys → bytes ≡ front ++ (xs ++ ys)
  parts_at xs ys e = here.whole ∙ ap (λ (l : List ℕ). front ++ l) (sym (rest_at bytes at coding colours numbers front rest here) ∙ e)

  -- the first numbers and one more
  pub at_next : (limit : ℕ) (x : ℕ × ℕ) (there : FieldThere limit bytes at x) → Fit (4096 ∷ 4096 ∷ 65535 ∷ []) (numbers ++ x.0 ∷ [])
      → IsAt bytes x.1 coding colours (numbers ++ x.0 ∷ []) (front ++ (there.gap ++ there.digits)) there.rest
  at_next limit x there fit =
      record {
        whole =
            parts_at there.gap (there.digits ++ there.rest) there.parts
            ∙ ap (λ (l : List ℕ). front ++ l) (sym (append_assoc there.gap there.digits there.rest))
            ∙ sym (append_assoc front (there.gap ++ there.digits) there.rest);
        place = omega (arith, there.end, here.place, length-append front (there.gap ++ there.digits), length-append there.gap there.digits);
        front_is = front_more coding colours x.0 numbers front there.gap there.digits here.front_is there.gap_is there.number fit;
        taken = λ _. there.taken;
      }

  digit_first_only : (byte : ℕ) (more : List ℕ) (filler : List ℕ) → rest ≡ filler ++ byte ∷ more → filler ≡ [] → is_ascii_digit byte ≡ true
      → numbers ≡ []
  digit_first_only byte more filler e none digit = elim (nil_or_cons numbers) [
    | inl empty ↦ empty
    | inr (n, ns, is) ↦
        let some : 0 < length numbers = omega (arith, ap length is) in
        let first : NoDigit (byte ∷ more) = subst NoDigit (e ∙ ap (λ (l : List ℕ). l ++ byte ∷ more) none) (here.taken some) in
        absurd (both (is_ascii_digit byte) digit first)
  ]
    where
      both : (b : Bool) → b ≡ true → b ≡ false → ⊥
      both b t f = absurd (contra (sym t ∙ f))
        where
          contra : true ≡ false → ⊥
          contra e = cc

  pub stop_fault : (e : PicFault) → length numbers < 3 → StopThere bytes at e → IsFault bytes e
  stop_fault e few stop = elim stop.which [
    | inl (none, is) ↦
        let cut : EndsInHeader bytes = record {
          coding = coding;
          colours = colours;
          numbers = numbers;
          front = front;
          filler = stop.filler;
          whole =
              parts_at stop.filler stop.rest stop.parts ∙ ap (λ (l : List ℕ). front ++ (stop.filler ++ l)) none
              ∙ ap (λ (l : List ℕ). front ++ l) (append-nil stop.filler);
          front_is = here.front_is;
          filler_is = stop.cut;
          behind_max = λ three. absurd (omega arith);
        } in
        subst (IsFault bytes) (sym is) (refl, inr (inr cut))
    | inr (byte, more, rest_is, closed, stands, is, digit) ↦
        let e' =
        sym (rest_at bytes at coding colours numbers front rest here) ∙ stop.parts ∙ ap (λ (l : List ℕ). stop.filler ++ l) rest_is in
        let bad : HasBadHeaderByte bytes (at + length stop.filler) = record {
          coding = coding;
          colours = colours;
          numbers = numbers;
          front = front;
          filler = stop.filler;
          byte = byte;
          rest = more;
          whole = parts_at stop.filler stop.rest stop.parts ∙ ap (λ (l : List ℕ). front ++ (stop.filler ++ l)) rest_is;
          place = ap (λ (n : ℕ). n + length stop.filler) here.place;
          front_is = here.front_is;
          filler_is = closed;
          behind_max = λ three. absurd (omega arith);
          stands_not = stands;
          digit_only_behind_magic = λ d. (digit d, digit_first_only byte more stop.filler e' (digit d) d);
        } in
        subst (IsFault bytes) (sym is) (inl bad)
  ]

  pub bad_field : (limit start before : ℕ) → length numbers ≡ before → BadThere limit bytes at start → HasBadField limit bytes start before
  bad_field limit start before count bad =
      record {
        coding = coding;
        colours = colours;
        numbers = numbers;
        front = front;
        gap = bad.gap;
        digits = bad.digits;
        rest = bad.rest;
        number = bad.number;
        whole = parts_at bad.gap (bad.digits ++ bad.rest) bad.parts;
        place = bad.place ∙ ap (λ (n : ℕ). n + length bad.gap) here.place;
        front_is = here.front_is;
        count = count;
        gap_is = bad.gap_is;
        digits_are = bad.number_is;
        taken_whole = bad.taken;
        out_of_range = bad.out;
      }

  pub white_fault : (e : PicFault) → length numbers ≡ 3 → WhiteFails bytes at e → IsFault bytes e
  white_fault e three fails = elim fails [
    | inl (none, is) ↦
        let cut : EndsInHeader bytes = record {
          coding = coding;
          colours = colours;
          numbers = numbers;
          front = front;
          filler = [];
          whole = parts_at [] [] none;
          front_is = here.front_is;
          filler_is = ended [] nothing;
          behind_max = λ _. refl;
        } in
        subst (IsFault bytes) (sym is) (refl, inr (inr cut))
    | inr (inl (more, there, is)) ↦
        let comment : HasCommentBehindMax bytes at = record {
          coding = coding;
          colours = colours;
          numbers = numbers;
          front = front;
          rest = more;
          whole = parts_at [] (35 ∷ more) there;
          place = here.place;
          front_is = here.front_is;
          count = three;
        } in
        subst (IsFault bytes) (sym is) comment
    | inr (inr (byte, more, there, stands, is)) ↦
        let e' = sym (rest_at bytes at coding colours numbers front rest here) ∙ there in
        let bad : HasBadHeaderByte bytes at = record {
          coding = coding;
          colours = colours;
          numbers = numbers;
          front = front;
          filler = [];
          byte = byte;
          rest = more;
          whole = parts_at [] (byte ∷ more) there;
          place = here.place ∙ omega arith;
          front_is = here.front_is;
          filler_is = nothing;
          behind_max = λ _. refl;
          stands_not = stands;
          digit_only_behind_magic = λ d. (refl, digit_first_only byte more [] e' refl d);
        } in
        subst (IsFault bytes) (sym is) (inl bad)
  ]

-- ---- the whole header

-- what a header says, and what follows it
pub record HeaderThere (bytes : List ℕ) (h : PictureHeader) : Type 0 where
  pub front : List ℕ
  pub white : ℕ
  pub rest : List ℕ
  pub whole : bytes ≡ front ++ white ∷ rest
  pub place : h.end ≡ length front + 1
  pub front_is : IsHeaderFront h.coding h.colours (h.cols ∷ h.rows ∷ h.max ∷ []) front
  pub white_is : is_white white ≡ true
  pub rest_is : drop h.end bytes ≡ rest

abbrev pub HeaderView : List ℕ → Result PictureHeader PicFault → Type 0
HeaderView bytes r = MatchResult r (HeaderThere bytes) (IsFault bytes)

header_5 : (bytes : List ℕ) (at : ℕ) (coding : RasterCoding) (colours cols rows max : ℕ) (front rest : List ℕ)
    → IsAt bytes at coding colours (cols ∷ rows ∷ max ∷ []) front rest → (r : Result ℕ PicFault)
    → MatchResult r (WhiteThere bytes at) (WhiteFails bytes at)
    → HeaderView bytes (r >>= λ end. Ok (record { coding = coding; colours = colours; cols = cols; rows = rows; max = max; end = end }))
header_5 bytes at coding colours cols rows max front rest here (Err e) view =
    white_fault bytes at coding colours (cols ∷ rows ∷ max ∷ []) front rest here e refl view
header_5 bytes at coding colours cols rows max front rest here (Ok end) (white, more, e, w, place) =
    let after : drop at bytes ≡ (white ∷ []) ++ more = e in
    record {
      front = front;
      white = white;
      rest = more;
      whole =
          here.whole ∙ ap (λ (l : List ℕ). front ++ l) (sym (rest_at bytes at coding colours (cols ∷ rows ∷ max ∷ []) front rest here) ∙ e);
      place = place ∙ ap (λ (n : ℕ). n + 1) here.place;
      front_is = here.front_is;
      white_is = w;
      rest_is = ap (λ (n : ℕ). drop n bytes) place ∙ behind bytes (white ∷ []) more at after;
    }

header_4 : (bytes : List ℕ) (at : ℕ) (coding : RasterCoding) (colours cols rows : ℕ) (front rest : List ℕ)
    → IsAt bytes at coding colours (cols ∷ rows ∷ []) front rest → (r : Result (ℕ × ℕ) PicFault)
    → MatchResult r (FieldThere 65535 bytes at) (FieldFails 65535 BadMax bytes at)
    → HeaderView bytes (r
    >>= λ max. white_read bytes max.1
    >>= λ end. Ok (record { coding = coding; colours = colours; cols = cols; rows = rows; max = max.0; end = end }))
header_4 bytes at coding colours cols rows front rest here (Err e) view = elim view [
  | inl stop ↦ stop_fault bytes at coding colours (cols ∷ rows ∷ []) front rest here e (omega arith) stop
  | inr (start, is, bad) ↦ subst (IsFault bytes) (sym is)
      (bad_field bytes at coding colours (cols ∷ rows ∷ []) front rest here 65535 start 2 refl bad)
]
header_4 bytes at coding colours cols rows front rest here (Ok x) there =
    let ranges = here.front_is.ranges in
    let next =
    at_next bytes at coding colours (cols ∷ rows ∷ []) front rest here 65535 x there (ranges.0, (ranges.1.0, (there.range, tt))) in
    let inside = within_at bytes x.1 coding colours (cols ∷ rows ∷ x.0 ∷ []) (front ++ (there.gap ++ there.digits)) there.rest next in
    header_5 bytes x.1 coding colours cols rows x.0 (front ++ (there.gap ++ there.digits)) there.rest next (white_read bytes x.1)
    (white_view bytes x.1 inside)

header_3 : (bytes : List ℕ) (at : ℕ) (coding : RasterCoding) (colours cols : ℕ) (front rest : List ℕ)
    → IsAt bytes at coding colours (cols ∷ []) front rest → (r : Result (ℕ × ℕ) PicFault)
    → MatchResult r (FieldThere 4096 bytes at) (FieldFails 4096 BadSize bytes at)
    → HeaderView bytes (r
    >>= λ rows. max_read bytes rows.1
    >>= λ max. white_read bytes max.1
    >>= λ end. Ok (record { coding = coding; colours = colours; cols = cols; rows = rows.0; max = max.0; end = end }))
header_3 bytes at coding colours cols front rest here (Err e) view = elim view [
  | inl stop ↦ stop_fault bytes at coding colours (cols ∷ []) front rest here e (omega arith) stop
  | inr (start, is, bad) ↦ subst (IsFault bytes) (sym is)
      (inr (bad_field bytes at coding colours (cols ∷ []) front rest here 4096 start 1 refl bad))
]
header_3 bytes at coding colours cols front rest here (Ok x) there =
    let ranges = here.front_is.ranges in
    let next = at_next bytes at coding colours (cols ∷ []) front rest here 4096 x there (ranges.0, (there.range, tt)) in
    let inside = within_at bytes x.1 coding colours (cols ∷ x.0 ∷ []) (front ++ (there.gap ++ there.digits)) there.rest next in
    header_4 bytes x.1 coding colours cols x.0 (front ++ (there.gap ++ there.digits)) there.rest next (max_read bytes x.1)
    (max_view bytes x.1 inside)

header_2 : (bytes : List ℕ) (at : ℕ) (coding : RasterCoding) (colours : ℕ) (front rest : List ℕ) → IsAt bytes at coding colours [] front rest
    → (r : Result (ℕ × ℕ) PicFault)
    → MatchResult r (FieldThere 4096 bytes at) (FieldFails 4096 BadSize bytes at)
    → HeaderView bytes (r
    >>= λ cols. size_read bytes cols.1
    >>= λ rows. max_read bytes rows.1
    >>= λ max. white_read bytes max.1
    >>= λ end. Ok (record { coding = coding; colours = colours; cols = cols.0; rows = rows.0; max = max.0; end = end }))
header_2 bytes at coding colours front rest here (Err e) view = elim view [
  | inl stop ↦ stop_fault bytes at coding colours [] front rest here e (omega arith) stop
  | inr (start, is, bad) ↦ subst (IsFault bytes) (sym is) (inl (bad_field bytes at coding colours [] front rest here 4096 start 0 refl bad))
]
header_2 bytes at coding colours front rest here (Ok x) there =
    let next = at_next bytes at coding colours [] front rest here 4096 x there (there.range, tt) in
    let inside = within_at bytes x.1 coding colours (x.0 ∷ []) (front ++ (there.gap ++ there.digits)) there.rest next in
    header_3 bytes x.1 coding colours x.0 (front ++ (there.gap ++ there.digits)) there.rest next (size_read bytes x.1)
    (size_view bytes x.1 inside)

header_1 : (bytes : List ℕ) (r : Result (RasterCoding × ℕ) PicFault) → MagicView bytes r
    → HeaderView bytes (r
    >>= λ m. size_read bytes 2
    >>= λ cols. size_read bytes cols.1
    >>= λ rows. max_read bytes rows.1
    >>= λ max. white_read bytes max.1
    >>= λ end. Ok (record { coding = m.0; colours = m.1; cols = cols.0; rows = rows.0; max = max.0; end = end }))
header_1 bytes (Err e) view = view
header_1 bytes (Ok m) (colours, whole, long) =
    let here : IsAt bytes 2 m.0 m.1 [] (magic m.0 m.1) (drop 2 bytes) = record {
      whole = whole;
      place = sym (length-magic m.0 m.1);
      front_is = record { fields = []; parts = sym (append-nil (magic m.0 m.1)); colours_are = colours; fields_are = refl; ranges = tt };
      taken = λ some. absurd (omega arith);
    } in
    header_2 bytes 2 m.0 m.1 (magic m.0 m.1) (drop 2 bytes) here (size_read bytes 2) (size_view bytes 2 long)

pub header_view : (bytes : List ℕ) → HeaderView bytes (header_read bytes)
unfolding header_read
header_view bytes = header_1 bytes (magic_read bytes) (magic_view bytes)

-- ---- each header is read

pub header_complete : (coding : RasterCoding) (colours cols rows max : ℕ) (fields : List ℕ) (white : ℕ) (rest : List ℕ)
    → (colours ≡ 1) ⊎ (colours ≡ 3) → IsFields (cols ∷ rows ∷ max ∷ []) fields
    → InRange 4096 cols → InRange 4096 rows → InRange 65535 max → is_white white ≡ true → (bytes : List ℕ)
    → bytes ≡ magic coding colours ++ (fields ++ white ∷ rest)
    → header_read bytes
    ≡ Ok (record { coding = coding; colours = colours; cols = cols; rows = rows; max = max; end = 2 + length fields + 1 })
unfolding header_read
header_complete coding colours cols rows max fields white rest two
    (g1, d1, f1, e1, hg1, hd1, (g2, d2, f2, e2, hg2, hd2, (g3, d3, f3, e3, hg3, hd3, e4))) rc rr rm w bytes whole =
    let first : magic_read bytes ≡ Ok (coding, colours) =
    ap magic_read whole ∙ magic_complete coding colours (fields ++ white ∷ rest) two in
    let tail = white ∷ rest in
    let s3 : f3 ++ tail ≡ tail = ap (λ (l : List ℕ). l ++ tail) e4 in
    let s2 : f2 ++ tail ≡ g3 ++ (d3 ++ tail) =
    ap (λ (l : List ℕ). l ++ tail) e3 ∙ append_assoc g3 (d3 ++ f3) tail
    ∙ ap (λ (l : List ℕ). g3 ++ l) (append_assoc d3 f3 tail ∙ ap (λ (l : List ℕ). d3 ++ l) s3) in
    let s1 : f1 ++ tail ≡ g2 ++ (d2 ++ (f2 ++ tail)) =
    ap (λ (l : List ℕ). l ++ tail) e2 ∙ append_assoc g2 (d2 ++ f2) tail ∙ ap (λ (l : List ℕ). g2 ++ l) (append_assoc d2 f2 tail) in
    let s0 : fields ++ tail ≡ g1 ++ (d1 ++ (f1 ++ tail)) =
    ap (λ (l : List ℕ). l ++ tail) e1 ∙ append_assoc g1 (d1 ++ f1) tail ∙ ap (λ (l : List ℕ). g1 ++ l) (append_assoc d1 f1 tail) in
    let at0 : drop 2 bytes ≡ g1 ++ (d1 ++ (f1 ++ tail)) =
    ap (drop 2) whole ∙ drop_at (magic coding colours) (fields ++ tail) 2 (length-magic coding colours) ∙ s0 in
    let p1 = 2 + length g1 + length d1 in
    let p2 = p1 + length g2 + length d2 in
    let p3 = p2 + length g3 + length d3 in
    let next : (at : ℕ) (g d r : List ℕ) → drop at bytes ≡ g ++ (d ++ r) → drop (at + length g + length d) bytes ≡ r =
    λ at g d r e. behind bytes d r (at + length g) (behind bytes g (d ++ r) at e) in
    let at1 : drop p1 bytes ≡ g2 ++ (d2 ++ (f2 ++ tail)) = next 2 g1 d1 (f1 ++ tail) at0 ∙ s1 in
    let at2 : drop p2 bytes ≡ g3 ++ (d3 ++ tail) = next p1 g2 d2 (f2 ++ tail) at1 ∙ s2 in
    let at3 : drop p3 bytes ≡ tail = next p2 g3 d3 tail at2 in
    let n1 : NoDigit (f1 ++ tail) = subst NoDigit (sym s1) (gap_no_digit g2 (d2 ++ (f2 ++ tail)) hg2.some (filler_scans g2 hg2.filler)) in
    let n2 : NoDigit (f2 ++ tail) = subst NoDigit (sym s2) (gap_no_digit g3 (d3 ++ tail) hg3.some (filler_scans g3 hg3.filler)) in
    let n3 : NoDigit tail = white_no_digit white w in
    let r1 = size_complete bytes 2 g1 d1 (f1 ++ tail) cols at0 hg1 hd1 n1 rc in
    let r2 = size_complete bytes p1 g2 d2 (f2 ++ tail) rows at1 hg2 hd2 n2 rr in
    let r3 = max_complete bytes p2 g3 d3 tail max at2 hg3 hd3 n3 rm in
    let r4 = white_complete bytes p3 white rest at3 w in
    let l1 : length f1 ≡ length g2 + length d2 + length f2 =
    omega (arith, ap length e2, length-append g2 (d2 ++ f2), length-append d2 f2) in
    let l2 : length f2 ≡ length g3 + length d3 + length f3 =
    omega (arith, ap length e3, length-append g3 (d3 ++ f3), length-append d3 f3) in
    let l0 : length fields ≡ length g1 + length d1 + length f1 =
    omega (arith, ap length e1, length-append g1 (d1 ++ f1), length-append d1 f1) in
    let l3 : length f3 ≡ 0 = ap length e4 in
    let end : p3 + 1 ≡ 2 + length fields + 1 = omega arith in
    rw (first, r1, r2, r3, r4)
    (ap (λ (n : ℕ). Ok (record { coding = coding; colours = colours; cols = cols; rows = rows; max = max; end = n })) end)
