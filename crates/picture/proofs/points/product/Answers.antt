use Rattle.std.proofs.Common.{◌≤◌, ◌*◌, arith}
use Rattle.std.proofs.Math.Nat.{mul-le-mul}
use Rattle.picture.proofs.points.product.Goals as goal

pub overflow_mul-result : goal.overflow_mul-result
overflow_mul-result c =
    let a : c.from.result ≤ 4294967295 = omega arith in
    let b : c.from-2.result ≤ 4294967295 = omega arith in
    let e : c.from.result * c.from-2.result ≤ 4294967295 * 4294967295 = mul-le-mul a b in
    omega (arith, e)

pub returns-clause-few : goal.returns-clause-few
returns-clause-few c =
    let a : c.from.result ≤ 4294967295 = omega arith in
    let b : c.from-2.result ≤ 4294967295 = omega arith in
    let e : c.from.result * c.from-2.result ≤ 4294967295 * 4294967295 = mul-le-mul a b in
    omega (arith, e)
