-- The least room for the operands of both formulas of an accumulator.
use Rattle.std.proofs.Common.{◌≡◌, arith, ℕ, ◌≤◌, max, Option, Some, None, subst, sym}
use Rattle.job.specs.Views.{formula_view}
use Rattle.job.specs.declared.stage.Accumulator.{Accumulator}
use Rattle.tile_eval.proofs.Gathering.{room_less}
use Rattle.tile_eval.specs.Counted.{IsLeast}
use Rattle.tile_eval.specs.Reading.{HasRoom}
use Rattle.reductions.specs.Accumulating.{HasRoomAlong}

abbrev ValueLeast : Accumulator → ℕ → Option ℕ → Type 0
ValueLeast a n found = IsLeast (HasRoom (formula_view a.value) n) found

abbrev BinLeast : Accumulator → ℕ → Option ℕ → Type 0
BinLeast a n found = IsLeast (HasRoom (formula_view a.bin) n) found

pub no_value_room : (a : Accumulator) (n : ℕ) (found : Option ℕ) → found ≡ None → ValueLeast a n None → IsLeast (HasRoomAlong a n) found
no_value_room a n found none is =
    subst (IsLeast (HasRoomAlong a n)) (sym none) (record { some = tt; least = tt; none = λ m h. is.none m h.value })

pub no_bin_room : (a : Accumulator) (n : ℕ) (found : Option ℕ) → found ≡ None → BinLeast a n None → IsLeast (HasRoomAlong a n) found
no_bin_room a n found none is =
    subst (IsLeast (HasRoomAlong a n)) (sym none) (record { some = tt; least = tt; none = λ m h. is.none m h.bin })

pub both_least : (a : Accumulator) (n value bin most : ℕ) → most ≡ max value bin → ValueLeast a n (Some value) → BinLeast a n (Some bin)
    → IsLeast (HasRoomAlong a n) (Some most)
both_least a n value bin most greatest first second =
    let same : n ≤ n = omega arith in
    let enough : value ≤ most = omega (arith, greatest) in
    let more : bin ≤ most = omega (arith, greatest) in
    record {
      some = record {
        value = room_less (formula_view a.value) n n value most same enough first.some;
        bin = room_less (formula_view a.bin) n n bin most same more second.some;
      };
      least = λ m h. omega (arith, greatest, first.least m h.value, second.least m h.bin);
      none = tt;
    }
