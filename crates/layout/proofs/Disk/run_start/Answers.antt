use native.Mathlib.Omega.{arith}
use Rattle.layout.proofs.OneStep.{below}
use Rattle.layout.proofs.Disk.run_start.Goals as goal

pub overflow_mul-result : goal.overflow_mul-result
overflow_mul-result c = omega (arith, below c.field.result c.args.self.now.g.units 255 8 (omega arith) (omega arith))

pub overflow_add-result : goal.overflow_add-result
overflow_add-result c = omega (arith, below c.field.result c.args.self.now.g.units 255 8 (omega arith) (omega arith))

pub returns : goal.returns
returns c = record {
  is = cc;
  small = omega
      (arith, below c.field.result c.args.self.now.g.units 255 8 (omega arith) (omega arith));
}
