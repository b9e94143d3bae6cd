-- The report of a suite counts each clause of a fault.
use Rattle.std.proofs.Common.{◌≡◌, map, arith, refl}
use Rattle.std.specs.Prelude.{Contains}
use Rattle.pv_fault.specs.declared.faults.Clause.{Clause}
use Rattle.pv_fault.specs.declared.faults.Clause.TheVariants.{Lifetimes, Traps, PointerToInteger, PointerToPointer, PointerToFunction, StringLiterals, Sequencing, Exceptions, EffectiveTypes, Indirection, ZeroDivisors, Quotients, AdditionOfPointers, SubtractionOfPointers, ShiftCounts, LeftShifts, OrderOfPointers, OverlappingAssignment, ConstObjects, MissingValues, LibraryArguments, Formats, Freeing, Reallocating, StringFunctions, MemcpyOverlap, StrcpyOverlap}
use Rattle.pv_fault.specs.FaultTexts.{clause_text}
use Rattle.pv_cases.specs.Suites.{all_clauses}
use Rattle.pv_suite.specs.Clauses.{every_clause}

pub counted : all_clauses ≡ map clause_text every_clause
unfolding all_clauses
counted = refl

pub every : (c : Clause) → Contains every_clause c
every Lifetimes = (0, omega arith, refl)
every Traps = (1, omega arith, refl)
every PointerToInteger = (2, omega arith, refl)
every PointerToPointer = (3, omega arith, refl)
every PointerToFunction = (4, omega arith, refl)
every StringLiterals = (5, omega arith, refl)
every Sequencing = (6, omega arith, refl)
every Exceptions = (7, omega arith, refl)
every EffectiveTypes = (8, omega arith, refl)
every Indirection = (9, omega arith, refl)
every ZeroDivisors = (10, omega arith, refl)
every Quotients = (11, omega arith, refl)
every AdditionOfPointers = (12, omega arith, refl)
every SubtractionOfPointers = (13, omega arith, refl)
every ShiftCounts = (14, omega arith, refl)
every LeftShifts = (15, omega arith, refl)
every OrderOfPointers = (16, omega arith, refl)
every OverlappingAssignment = (17, omega arith, refl)
every ConstObjects = (18, omega arith, refl)
every MissingValues = (19, omega arith, refl)
every LibraryArguments = (20, omega arith, refl)
every Formats = (21, omega arith, refl)
every Freeing = (22, omega arith, refl)
every Reallocating = (23, omega arith, refl)
every StringFunctions = (24, omega arith, refl)
every MemcpyOverlap = (25, omega arith, refl)
every StrcpyOverlap = (26, omega arith, refl)
