-- A bridge: what is kept of the objects and functions of file scope.
use Rattle.std.specs.Prelude.{false}
use Rattle.pv_unit.specs.declared.entities.Entity.{Entity}
use Rattle.pv_unit.specs.Redeclarations.{Entity as WholeEntity}

-- an object or a function of file scope (6.9p1) that the code keeps, as the definitions have it
abbrev pub entity_of : Entity → WholeEntity
entity_of e = record { name = e.name; function = e.function; number = e.number; defined = e.defined; initialized = e.initialized; unsized = e.without_size }

-- what stands for an object or a function (6.9p1) that there is not: a helper of lists
abbrev pub no_entity : Entity
no_entity = record { name = 0; function = false; number = 0; defined = false; initialized = false; without_size = false }
