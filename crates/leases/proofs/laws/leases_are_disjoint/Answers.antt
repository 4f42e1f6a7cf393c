use Rattle.std.proofs.Common.{◌≡◌, ◌<◌, ◌≤◌, inl, inr, ℕ, List, length, get_or, AllPairs, IsTrue, sym, ◌∙◌, subst, arith}
use Rattle.std.proofs.lemmas.Bool.{cases_lt}
use Rattle.std.proofs.lemmas.List.{get_or_default}
use Rattle.leases.specs.declared.entry.Lease.{Lease}
use Rattle.leases.specs.Leases.{leases_of, lasts}
use Rattle.leases.proofs.LeaseLists.{pairs_apart}
use Rattle.leases.proofs.LegalHistories.{legal_is_kept}
use Rattle.leases.proofs.laws.leases_are_disjoint.Goals as goal

-- a time at which a lease lasts is one from its beginning on and before its end
within : (x : ℕ) (l : Lease) → IsTrue (lasts x l) → (l.from ≤ x) × (x < l.until)
within x l h = grind arith

one_place : (ls : List Lease) (i : ℕ) (a b : Lease) → i < length ls → get_or ls i a ≡ a → get_or ls i b ≡ b → a ≡ b
one_place ls i a b inside at_a at_b = sym at_a ∙ (get_or_default ls i a b inside ∙ at_b)

-- of two leases that last at one time neither stands before the other
not_before : (x : ℕ) (ls : List Lease) (a b : Lease) (i j : ℕ) → AllPairs (λ a b. a.until ≤ b.from) ls → i < j → j < length ls
    → get_or ls i a ≡ a → get_or ls j b ≡ b → IsTrue (lasts x a) → IsTrue (lasts x b) → ⊥
not_before x ls a b i j apart before inside at_a at_b in_a in_b =
    let there : get_or ls j a ≡ b = get_or_default ls j a b inside ∙ at_b in
    let later : a.until ≤ b.from =
    subst (λ l. l.until ≤ b.from) at_a (subst (λ m. (get_or ls i a).until ≤ m.from) there (apart i j a before inside)) in
    let lasts_a = within x a in_a in
    let lasts_b = within x b in_b in
    omega arith

pub returns-clause-apart : goal.returns-clause-apart
returns-clause-apart c = λ h t q legal. pairs_apart (leases_of q h) ((legal_is_kept h t legal).apart q)

pub returns-clause-one_holder : goal.returns-clause-one_holder
returns-clause-one_holder c = λ h t x q a b legal has_a has_b in_a in_b.
    let ls = leases_of q h in
    let apart = pairs_apart ls ((legal_is_kept h t legal).apart q) in
    elim (cases_lt has_a.0 has_b.0) [
      | inl before ↦ absurd (not_before x ls a b has_a.0 has_b.0 apart before has_b.1 has_a.2 has_b.2 in_a in_b)
      | inr not_after ↦ elim (cases_lt has_b.0 has_a.0) [
        | inl before ↦ absurd (not_before x ls b a has_b.0 has_a.0 apart before has_a.1 has_b.2 has_a.2 in_b in_a)
        | inr not_before' ↦ one_place ls has_a.0 a b has_a.1 has_a.2
            (subst (λ i. get_or ls i b ≡ b) (let e : has_b.0 ≡ has_a.0 = omega arith in e) has_b.2)
      ]
    ]
