-- Epilogues: what is applied to the results of an operator.
use Rattle.std.specs.Prelude.{ℤ, pos, ◌^◌, unsigned_abs}
use Rattle.domains.specs.Arithmetic.{wrapped, clamped, floor_div}
use Rattle.row_kernels.specs.Added.{added}
use Rattle.row_kernels.specs.declared.changes.Clamping.{Clamping as Bounds}
use Rattle.row_kernels.specs.declared.changes.ShiftEpilogue.{ShiftEpilogue}
use Rattle.row_kernels.specs.declared.finish.Epilogue.{Epilogue}
use Rattle.row_kernels.specs.declared.finish.Epilogue.TheVariants.{Nothing, Absolute, Shift, Clamping, ShiftAndClamping}

-- a number is added, and the sum divided by a power of two, rounded down
abbrev pub shifted : ShiftEpilogue → ℤ → ℤ
shifted s v = floor_div (added v s.add) (pos (2 ^ s.count.bits))

abbrev pub cut : Bounds → ℤ → ℤ
cut c v = clamped v c.low c.high

-- what an epilogue makes of a number
abbrev pub epilogue_value : Epilogue → ℤ → ℤ
epilogue_value Nothing v = v
epilogue_value Absolute v = wrapped (pos (unsigned_abs v))
epilogue_value (Shift s) v = shifted s v
epilogue_value (Clamping c) v = cut c v
epilogue_value (ShiftAndClamping s c) v = cut c (shifted s v)
