-- A `Vec` of numbers, as borrows use it.
use Rattle.std.specs.Borrow.{RattleType, i32}
use Rattle.std.specs.contracts.alloc.Global as global
use Rattle.std.specs.contracts.vec.Vec as vec
use Rattle.std.specs.contracts.impls.GlobalAllocator.TheImpl.{ghosts}

-- `Vec<i32>`, as the logic represents it
abbrev pub numbers_row : RattleType
numbers_row = vec.the_row i32 global.the_row ghosts
