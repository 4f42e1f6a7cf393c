-- What holds of an answer of a desk that threads share: it is that of the desk's one history at a point that the caller had not
-- passed, and up to which it has then seen it. The time of a call is not before the one that the caller supplies.
use Rattle.std.specs.Prelude.{◌≡◌, ℕ, max, Option, None, List}
use Rattle.identity.specs.declared.key.Key.{Key}
use Rattle.leases.specs.declared.answer.Claim.{Claim}
use Rattle.leases.specs.declared.answer.Release.{Release}
use Rattle.leases.specs.declared.entry.LeaseEntry.{LeaseEntry}
use Rattle.leases.specs.Rules.{IsLegal, claim_answer, claim_entry, release_answer, release_entry, holder_of, with_entry}
use mathlib.Core.List.{IsPrefix}

-- after `before`, which begins as what the caller had seen, the rules give this answer, and what is recorded of it follows in the
-- history
pub record IsClaimIn (seen history : List LeaseEntry) (now node : ℕ) (key : Key) (ttl : ℕ) (answer : Claim) : Type 0 where
  pub before : List LeaseEntry
  pub since : IsPrefix seen before
  pub time : ℕ
  pub legal : IsLegal before time
  pub given : answer ≡ claim_answer before (max time now) node key ttl
  pub recorded : IsPrefix (with_entry before (claim_entry (max time now) node key answer)) history

pub record IsReleaseIn (seen history : List LeaseEntry) (now node : ℕ) (key : Key) (answer : Release) : Type 0 where
  pub before : List LeaseEntry
  pub since : IsPrefix seen before
  pub time : ℕ
  pub legal : IsLegal before time
  pub given : answer ≡ release_answer before (max time now) node key
  pub recorded : IsPrefix (with_entry before (release_entry (max time now) node key answer)) history

pub record IsHolderIn (seen history : List LeaseEntry) (now : ℕ) (key : Key) (answer : Option ℕ) : Type 0 where
  pub before : List LeaseEntry
  pub since : IsPrefix seen before
  pub time : ℕ
  pub legal : IsLegal before time
  pub given : answer ≡ holder_of before (max time now) key
  pub shown : IsPrefix before history
