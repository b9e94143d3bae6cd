use Rattle.std.proofs.Common.{ℕ, List, sym, subst, ◌∙◌}
use Rattle.pv_shadow.specs.declared.byte.Byte.{Byte}
use Rattle.pv_shadow.specs.Bytes.{Store}
use Rattle.pv_shadow.specs.Readings.{HasBytes}
use Rattle.pv_shadow.specs.Whole.{number_bytes, little_endian}
use Rattle.pv_shadow.proofs.Numbers.{plain_long}
use Rattle.pv_object.specs.declared.values.Scalar.TheVariants as scalar
use Rattle.pv_object.specs.Memory.{Mem}
use Rattle.pv_object.specs.Reaching.{HasLiveBytes, IsReach}
use Rattle.pv_object.specs.Encoding.{size_of}
use Rattle.pv_object.proofs.Contents.{reached_bytes, written_live, plain_made}
use Rattle.pv_object.proofs.memory.Memory.store_number.Goals as goal

pub put_number-requires-clause-there : goal.put_number-requires-clause-there
put_number-requires-clause-there c =
    let P : Mem → Type 0 = λ M. IsReach M.table c.args.at.now (size_of (scalar.Int c.args.kind)) in
    let N : ℕ → Type 0 = λ n. HasBytes c.self.inside.bytes c.args.at.now.address n in
    subst N (sym c.size_of-size.ensures.size) (reached_bytes c.self.inside.table c.self.inside.bytes c.args.at.now (size_of (scalar.Int c.args.kind)) c.self.invariant (subst P (sym c.self.view_is) c.requires))

pub invariant_of-self : goal.invariant_of-self
invariant_of-self c =
    let T = c.self.inside.table in
    let b = c.self.inside.bytes in
    let P : Mem → Type 0 = λ M. IsReach M.table c.args.at.now (size_of (scalar.Int c.args.kind)) in
    let N : ℕ → Type 0 = λ n. HasBytes b c.args.at.now.address n in
    let R : Store → Type 0 = λ m. HasLiveBytes T m in
    let bytes : List Byte = number_bytes c.args.mark 0 (little_endian c.size_of-size.result c.bits-number.result) in
    let there = reached_bytes T b c.args.at.now (size_of (scalar.Int c.args.kind)) c.self.invariant (subst P (sym c.self.view_is) c.requires) in
    let long = plain_long c.args.mark 0 c.size_of-size.result c.bits-number.result ∙ c.size_of-size.ensures.size in
    subst R (sym c.put_number.ensures) (written_live T b c.args.at.now.address bytes c.self.invariant (subst N (sym long) there) (plain_made T c.args.mark 0 (little_endian c.size_of-size.result c.bits-number.result)))
