-- The history of a desk, as it grows: an entry at a time, at its end.
use Rattle.std.specs.Prelude.{ℕ, ◌≡◌, ◌==◌, true, List, [], ◌∷◌, ◌++◌, length, MatchBool}
use Rattle.logbook.specs.Pages.{Cell, Step, View, Book, Named}
use Rattle.leases.specs.Rules.{IsLegal}
use Rattle.leases.specs.declared.entry.LeaseEntry.{LeaseEntry}

-- the entries are of calls at times that never fall, each as the rules answer after those before it
abbrev pub IsLegalLog : List LeaseEntry → Type 0
IsLegalLog log = (time : ℕ) × IsLegal log time

-- the first of two words is the length of the history, which is legal
pub record IsKept (cells : List Cell) (log : List LeaseEntry) : Type 0 where
  pub words : cells ≡ (length log, true) ∷ (0, true) ∷ []
  pub legal : IsLegalLog log

abbrev pub head_of : Book → Named
head_of book = record { tracked = true; key = 0; book = book }

-- the entry was added to all that had been seen; or the history was longer, and was seen
abbrev pub Adds : Step LeaseEntry → View LeaseEntry ℕ → ℕ → View LeaseEntry ℕ → Type 0
Adds s v found w = MatchBool (found == s.old) ((w.0 ≡ v.0 ++ s.ask ∷ []) × IsLegalLog w.0) ((length w.0 ≡ found) × IsLegalLog w.0)
