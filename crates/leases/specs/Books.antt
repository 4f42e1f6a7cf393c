-- What a book shows, and what it keeps.
use Rattle.std.specs.Prelude.{ℕ, ◌+◌, ◌≤◌, List, vec_len}
use Rattle.std.specs.Global.{Vec}
use Rattle.std.specs.Vec.{vec_capacity}
use Rattle.leases.specs.declared.desk.Desk.{Desk}
use Rattle.leases.specs.declared.entry.LeaseEntry.{LeaseEntry}
use Rattle.leases.specs.Standing.{StandsFor, lease_count}

-- the time, and the entries of all calls so far
pub record Book : Type 0 where
  pub time : ℕ
  pub history : List LeaseEntry

-- the desk stands for the history, which has capacity for an entry of each lease that the desk keeps
pub record IsBook (desk : Desk) (history : Vec LeaseEntry) : Type 0 where
  pub stands : StandsFor desk history.items desk.clock
  pub room : vec_len history + lease_count desk ≤ vec_capacity history
