use Rattle.std.proofs.Common.{arith, ◌≡◌, ◌+ℤ◌}
use Rattle.std.proofs.lemmas.Int.{ints}
use Rattle.domains.specs.Index.{index_at}
use Rattle.row_plans.proofs.Taking.{index_by_distance}
use Rattle.row_plans.proofs.rows_read.RowsRead.from_index.Goals as goal

pub returns-then-div-eq1 : goal.returns-then-div-eq1
returns-then-div-eq1 c = λ states g r held kept.
    let here : index_at c.args.index r ≡ r +ℤ c.args.index.add = index_by_distance c.args.index r (omega (arith, ints)) (omega (arith, ints)) in
    kept.kept held (index_at c.args.index r) (omega (arith, ints)) (omega (arith, ints))

pub returns-else-mul-eq1 : goal.returns-else-mul-eq1
returns-else-mul-eq1 c = λ states g r held kept.
    kept.kept held (index_at c.args.index r) (omega (arith, ints)) (omega (arith, ints))
