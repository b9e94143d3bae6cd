-- Lists that are lent, as the logic has their types: bridges to the code, which hands its bytes (C17 7.21.6.3) and events on.
use denote.RattleType.{RattleType}
use Rattle.std.specs.Borrow.{u8}
use Rattle.std.specs.contracts.alloc.Global as global
use Rattle.std.specs.contracts.vec.Vec as vec
use Rattle.std.specs.contracts.impls.GlobalAllocator.TheImpl.{ghosts}
use Rattle.pv_eval.specs.contracts.marked.Marked as marked

-- 7.21.6.3: the bytes that are printed
abbrev pub bytes_row : RattleType
bytes_row = vec.the_row u8 global.the_row ghosts

-- the events that wait to be told, each with how much was printed (7.21.6.3)
abbrev pub events_row : RattleType
events_row = vec.the_row marked.the_row global.the_row ghosts
