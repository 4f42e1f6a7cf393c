-- Keys of needed tiles.
use Rattle.std.proofs.Common.{ℕ, ◌≡◌, ◌<◌, inl, inr, refl, ap, ◌∙◌, List, cond, eqb, arith, Ordering, Less, Equal, Greater}
use Rattle.std.specs.Prelude.{AllPairs}
use Rattle.std.specs.Ordering.{nat_cmp, ordering_then, ordering_reverse}
use Rattle.std.specs.Cmp.Lexicographic.{slice_cmp}
use Rattle.std.proofs.lemmas.Bool.{lt-ltb, le-ltb, eq-eqb}
use Rattle.std.proofs.lemmas.Cmp.{nat_list_cmp_total}
use Rattle.job.specs.Identity.{input_id}
use Rattle.job.specs.Pipeline.{Pipeline}
use Rattle.job.specs.Answers.{Tile}
use Rattle.tile_boxes.specs.Targets.{Target}
use Rattle.overlap_tiles.specs.Needs.{key_of, needs, needed_keys, IsTileBefore, IsKeyBefore}
use Rattle.overlap_tiles.proofs.Lists.{AllPairs-map}
use Rattle.overlap_tiles.proofs.NeedsAreExact.{needs_rise}

-- ---- in order

self_equal : (o : Ordering) → o ≡ ordering_reverse o → o ≡ Equal
self_equal Less e = absurd (cc)
self_equal Equal e = refl
self_equal Greater e = absurd (cc)

same_id : (id : List ℕ) → slice_cmp nat_cmp id id ≡ Equal
same_id id = self_equal (slice_cmp nat_cmp id id) (nat_list_cmp_total.antisymm id id)

is_less : (m n : ℕ) → m < n → nat_cmp m n ≡ Less
is_less m n h = ap (λ b. cond b Less (cond (eqb m n) Equal Greater)) (lt-ltb m n h)

is_equal : (m n : ℕ) → m ≡ n → nat_cmp m n ≡ Equal
is_equal m n e =
    ap (λ b. cond b Less (cond (eqb m n) Equal Greater)) (le-ltb m n (omega arith)) ∙ ap (λ b. cond b Equal Greater) (eq-eqb m n e)

tile_cmp : Tile → Tile → Ordering
tile_cmp m n = ordering_then (nat_cmp m.stage n.stage) (ordering_then (nat_cmp m.row n.row) (nat_cmp m.col n.col))

tile_less : (m n : Tile) → IsTileBefore m n → tile_cmp m n ≡ Less
unfolding tile_cmp
tile_less m n h = elim h [
  | inl stage ↦ ap (λ (o : Ordering). ordering_then o (ordering_then (nat_cmp m.row n.row) (nat_cmp m.col n.col)))
      (is_less m.stage n.stage stage)
  | inr rest ↦
      (ap (λ (o : Ordering). ordering_then o (ordering_then (nat_cmp m.row n.row) (nat_cmp m.col n.col))) (is_equal m.stage n.stage rest.0)
      ∙ elim rest.1 [
        | inl row ↦ ap (λ (o : Ordering). ordering_then o (nat_cmp m.col n.col)) (is_less m.row n.row row)
        | inr last ↦
            (ap (λ (o : Ordering). ordering_then o (nat_cmp m.col n.col)) (is_equal m.row n.row last.0) ∙ is_less m.col n.col last.1)
      ])
]

pub key_before : (program : List ℕ) (job : Pipeline) (m n : Tile) → IsTileBefore m n
    → IsKeyBefore (key_of program job m) (key_of program job n)
unfolding tile_cmp
key_before program job m n h =
    ap (λ (o : Ordering). ordering_then o (ordering_then (slice_cmp nat_cmp (input_id job) (input_id job)) (tile_cmp m n)))
    (same_id program)
    ∙ ap (λ (o : Ordering). ordering_then o (tile_cmp m n)) (same_id (input_id job))
    ∙ tile_less m n h

pub keys_rise : (program : List ℕ) (t : Target) → AllPairs IsKeyBefore (needed_keys program t)
keys_rise program t = AllPairs-map IsTileBefore IsKeyBefore (key_of program t.job) (needs t) (needs_rise t) (key_before program t.job)
