-- A bridge: what functions answer that do a part of what Specifiers says.
use Rattle.pv_types.specs.Ty.{Ty}
use Rattle.pv_check.specs.declared.specifiers.Storage.TheVariants as storage
use Rattle.pv_check.specs.declared.specifiers.Storage.{Storage}
use Rattle.pv_check.specs.Specifiers.{Specified, is_plain}
use Rattle.std.specs.declared.option.Option.{Option}
use Rattle.std.specs.Prelude.{Some, None, if◌then◌else◌}

-- what specifiers say, made of the storage class and the type
abbrev pub specified_with : Storage → Ty → Option Specified
specified_with x t = Some (record { storage = x; t = t })

-- 6.7.2.1p1, 6.7.7p1: the type of specifiers that have no storage class
abbrev pub without_storage : Specified → Option Ty
without_storage x = if is_plain x.storage then Some x.t else None
