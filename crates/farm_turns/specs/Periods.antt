-- One of every n.
use Rattle.std.specs.Prelude.{ℕ, Bool, ◌+◌, nat_eq, nat_lt, if◌then◌else◌}

-- whether the next one is selected, where so many passed since the last that was. If the period is 0, none is
abbrev pub is_selected : ℕ → ℕ → Bool
is_selected period passed = nat_eq (passed + 1) period

-- how many have passed after the next one
abbrev pub count_after : ℕ → ℕ → ℕ
count_after period passed = if nat_lt (passed + 1) period then passed + 1 else 0
