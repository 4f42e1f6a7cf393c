-- The first table that is given otherwise than it is declared, passed table by table.
use Rattle.std.proofs.Common.{ℕ, zero, suc, arith, ◌+◌, ◌<◌, ◌≤◌, ◌≡◌, Bool, true, false, inl, inr, List, [], ◌∷◌, ◌++◌, length, drop}
use Rattle.std.proofs.Common.{get_or, Some, slice_get, subst, ap, sym, ◌∙◌, refl}
use Rattle.std.specs.Prelude.{ltb, IfSome, IfNone}
use Rattle.std.specs.Bool.{then_some}
use Rattle.std.specs.List.{flat_map}
use Rattle.std.proofs.lemmas.Bool.{ltb-true, ltb-false}
use Rattle.std.proofs.lemmas.List.{drop_all}
use Rattle.std.proofs.lemmas.Option.{none-some, same_Some, slice_get_cases}
use Rattle.domains.proofs.Places.{next_of}
use Rattle.pipe_tree.specs.declared.tree.Item.{Item}
use Rattle.pipe_tree.specs.declared.tree.Item.TheVariants as items
use Rattle.pipe_tree.specs.declared.tree.Table.{Table as TableText}
use Rattle.pipe_tree.specs.Tree.{declaration, declarations}
use Rattle.pipe_bounds.specs.declared.params.Setting.{Setting}
use Rattle.tables.specs.declared.table.Table.{Table}
use Rattle.binding.specs.Binding.{item_tables, IsTableFit, TablesFit}
use Rattle.binding.specs.BindFaults.{FitsAt, IsFirstMisfit}

-- ---- the tables of the items from a place on

abbrev pub tables_from : List Item → ℕ → List TableText
tables_from is n = flat_map item_tables (declarations (drop n is))

next_tables : (is : List Item) (n : ℕ) (x : Item) → n < length is → x ≡ get_or is n x
    → tables_from is n ≡ item_tables (declaration x) ++ tables_from is (n + 1)
next_tables is n x h e = ap (λ (xs : List Item). flat_map item_tables (declarations xs)) (next_of is n x h e)

pub table_first : (is : List Item) (n : ℕ) (x : Item) (t : TableText) → n < length is → x ≡ get_or is n x → x ≡ items.Table t
    → tables_from is n ≡ t ∷ tables_from is (n + 1)
table_first is n x t h e told =
    next_tables is n x h e ∙ ap (λ (y : Item). item_tables (declaration y) ++ tables_from is (n + 1)) told

pub none_first : (is : List Item) (n : ℕ) (x : Item) → n < length is → x ≡ get_or is n x → ((t : TableText) → x ≡ items.Table t → ⊥)
    → tables_from is n ≡ tables_from is (n + 1)
none_first is n x h e none = next_tables is n x h e ∙ ap (λ (ts : List TableText). ts ++ tables_from is (n + 1)) (by x none)
  where
    by : (y : Item) → ((t : TableText) → y ≡ items.Table t → ⊥) → item_tables (declaration y) ≡ []
    by (items.Param p) other = refl
    by (items.Image i) other = refl
    by (items.Table t) other = absurd (other t refl)
    by (items.Func f) other = refl
    by (items.Accum a) other = refl
    by (items.Output o) other = refl

pub none_behind : (is : List Item) (n : ℕ) → length is ≤ n → tables_from is n ≡ []
none_behind is n h = ap (λ (xs : List Item). flat_map item_tables (declarations xs)) (drop_all n is h)

module _ (ss : List Setting) where
  -- ---- one table more at the head

  fits_here : (t : TableText) (ts : List TableText) (g : Table) (gs : List Table) → IsTableFit ss t g → FitsAt ss (t ∷ ts) (g ∷ gs) 0
  fits_here t ts g gs fits = record { text = t; there = refl; table = g; handed = refl; fits = fits }

  fits_later : (t : TableText) (ts : List TableText) (g : Table) (gs : List Table) (n : ℕ) → FitsAt ss ts gs n
      → FitsAt ss (t ∷ ts) (g ∷ gs) (suc n)
  fits_later t ts g gs n h = record { text = h.text; there = h.there; table = h.table; handed = h.handed; fits = h.fits }

  -- behind a table that fits
  misfit_later : (t : TableText) (ts : List TableText) (g : Table) (gs : List Table) (n : ℕ) → IsTableFit ss t g
      → IsFirstMisfit ss ts gs n → IsFirstMisfit ss (t ∷ ts) (g ∷ gs) (suc n)
  misfit_later t ts g gs n fits h = record {
    some = elim h.some [
      | inl less ↦ inl (omega (arith, less))
      | inr less ↦ inr (omega (arith, less))
    ];
    misfit =
        λ at. h.misfit (record { text = at.text; there = at.there; table = at.table; handed = at.handed; fits = at.fits });
    before = before h.before;
  }
    where
      before : ((k : ℕ) → k < n → FitsAt ss ts gs k) → (k : ℕ) → k < suc n → FitsAt ss (t ∷ ts) (g ∷ gs) k
      before others zero less = fits_here t ts g gs fits
      before others (suc k) less = fits_later t ts g gs k (others k (omega (arith, less)))

  -- a declared table that no given one fits, or none is given for
  misfit_here : (t : TableText) (ts : List TableText) (gs : List Table) → ((g : Table) → slice_get gs 0 ≡ Some g → ¬ (IsTableFit ss t g))
      → IsFirstMisfit ss (t ∷ ts) gs 0
  misfit_here t ts gs unfit = record {
    some = inl (omega arith);
    misfit = λ at. unfit at.table at.handed (subst (λ (u : TableText). IsTableFit ss u at.table) (sym (same_Some t at.text at.there)) at.fits);
    before = λ k less. absurd (omega (arith, less));
  }

  -- one that is given, and is not declared
  misfit_behind : (g : Table) (gs : List Table) → IsFirstMisfit ss [] (g ∷ gs) 0
  misfit_behind g gs = record {
    some = inr (omega arith);
    misfit = λ at. absurd (none-some at.text at.there);
    before = λ k less. absurd (omega (arith, less));
  }

  -- ---- where the first tables were passed, and these are the texts of the others

  pub record Passed (texts : List TableText) (given : List Table) (others : List TableText) (n : ℕ) : Type 0 where
    pub within : n ≤ length given
    pub fit : TablesFit ss others (drop n given) → TablesFit ss texts given
    pub misfit : (k : ℕ) → IsFirstMisfit ss others (drop n given) k → IsFirstMisfit ss texts given (n + k)

  module _ (texts : List TableText) (given : List Table) where
    pub passes : (others more : List TableText) (n : ℕ) (t : TableText) (g : Table) → others ≡ t ∷ more → n < length given
        → g ≡ get_or given n g → IsTableFit ss t g → Passed texts given others n → Passed texts given more (n + 1)
    passes others more n t g first less here fits h =
        let rest = next_of given n g less here in
        record {
          within = omega (arith, less);
          fit =
              λ all. h.fit (subst (λ (ts : List TableText). TablesFit ss ts (drop n given)) (sym first)
              (subst (λ (gs : List Table). TablesFit ss (t ∷ more) gs) (sym rest) (fits, all)));
          misfit =
              λ k is.
              let one = misfit_later t more g (drop (n + 1) given) k fits is in
              let at =
              subst (λ (ts : List TableText). IsFirstMisfit ss ts (drop n given) (suc k)) (sym first)
              (subst (λ (gs : List Table). IsFirstMisfit ss (t ∷ more) gs (suc k)) (sym rest) one) in
              subst (IsFirstMisfit ss texts given) (omega arith) (h.misfit (suc k) at);
        }

    stops : (others more : List TableText) (n : ℕ) (t : TableText) → others ≡ t ∷ more
        → ((g : Table) → slice_get (drop n given) 0 ≡ Some g → ¬ (IsTableFit ss t g)) → Passed texts given others n
        → IsFirstMisfit ss texts given n
    stops others more n t first unfit h =
        let one =
        subst (λ (ts : List TableText). IsFirstMisfit ss ts (drop n given) 0) (sym first) (misfit_here t more (drop n given) unfit) in
        subst (IsFirstMisfit ss texts given) (omega arith) (h.misfit 0 one)

    -- the one that is given does not fit
    pub stops_unfit : (others more : List TableText) (n : ℕ) (t : TableText) (g : Table) → others ≡ t ∷ more → n < length given
        → g ≡ get_or given n g → ¬ (IsTableFit ss t g) → Passed texts given others n → IsFirstMisfit ss texts given n
    stops_unfit others more n t g first less here unfit h =
        let rest = next_of given n g less here in
        stops others more n t first
        (λ q at fits. unfit (subst (IsTableFit ss t) (sym (same_Some g q (ap (λ (gs : List Table). slice_get gs 0) (sym rest) ∙ at))) fits)) h

    -- none is given
    pub stops_short : (others more : List TableText) (n : ℕ) (t : TableText) → others ≡ t ∷ more → length given ≤ n
        → Passed texts given others n → IsFirstMisfit ss texts given n
    stops_short others more n t first past h =
        stops others more n t first
        (λ q at fits. none-some q (ap (λ (gs : List Table). slice_get gs 0) (sym (drop_all n given past)) ∙ at)) h

    -- all that are declared were passed
    pub ends : (others : List TableText) (n : ℕ) → others ≡ [] → Passed texts given others n → (b : Bool) → ltb n (length given) ≡ b
        → IfSome (then_some b n) (IsFirstMisfit ss texts given) × IfNone (then_some b n) (TablesFit ss texts given)
    ends others n none h true e = elim (slice_get_cases given n).1 [
      | inl here ↦
          let rest = next_of given n here.0 here.1 (sym here.3) in
          let one = subst (λ (gs : List Table). IsFirstMisfit ss [] gs 0) (sym rest) (misfit_behind here.0 (drop (n + 1) given)) in
          let at = subst (λ (ts : List TableText). IsFirstMisfit ss ts (drop n given) 0) (sym none) one in
          (subst (IsFirstMisfit ss texts given) (omega arith) (h.misfit 0 at), tt)
      | inr past ↦ absurd (omega (arith, past.0, ltb-true n (length given) e))
    ]
    ends others n none h false e =
        let past = drop_all n given (ltb-false n (length given) e) in (
          tt,
          h.fit (subst (λ (ts : List TableText). TablesFit ss ts (drop n given)) (sym none)
              (subst (λ (gs : List Table). TablesFit ss [] gs) (sym past) tt)),
        )
