use Rattle.fault_diagnosis.proofs.fault_at.Goals.{else-runs-s-3-via-then-runs-s-3+else-shared_fault, else-runs-s-3-via-else-runs-s-3}
use Rattle.fault_diagnosis.proofs.fault_at.Goals.{else-runs-s-2-via-then-runs-s-2+else-gat_fault, else-runs-s-2-via-else-runs-s-2}
use Rattle.fault_diagnosis.proofs.fault_at.Goals.{else-runs-s-via-then-runs-s+else-run_fault, else-runs-s-via-else-runs-s}
use Rattle.fault_kinds.proofs.Passes.{not_so}
use Rattle.meaning.specs.Fault.{run_fault, gat_fault, shared_fault}
use Rattle.std.proofs.Common.{arith, ◌≡◌, false}
use Rattle.std.proofs.lemmas.Grind.{common_steps}
use Rattle.meaning.specs.Fault.{fault_at}
use Rattle.meaning.specs.Lists.{first}
use Rattle.fault_diagnosis.proofs.fault_at.Goals as goal

pub returns-then-hit_fault : goal.returns-then-hit_fault
unfolding fault_at first
returns-then-hit_fault c = grind (arith, common_steps)

pub returns-then-name_fault : goal.returns-then-name_fault
unfolding fault_at first
returns-then-name_fault c = grind (arith, common_steps)

pub returns-then-duplicate_fault : goal.returns-then-duplicate_fault
unfolding fault_at first
returns-then-duplicate_fault c = grind (arith, common_steps)

pub returns-then-chain_fault : goal.returns-then-chain_fault
unfolding fault_at first
returns-then-chain_fault c = grind (arith, common_steps)

pub returns-then-run_fault : goal.returns-then-run_fault
unfolding fault_at first
returns-then-run_fault c = grind (arith, common_steps)

pub returns-then-gat_fault : goal.returns-then-gat_fault
unfolding fault_at first
returns-then-gat_fault c = let a = c.args in
    let run' : run_fault a.disk.now.g a.disk.now.image.now a.s ≡ false = elim c.else-runs-s.branch [
      | else-runs-s-via-then-runs-s+else-run_fault w ↦ not_so w.run_fault.ensures w.if-run_fault.false
      | else-runs-s-via-else-runs-s w ↦ c.requires.2.run a.s (omega arith) c.requires.0
    ] in
    grind (arith, common_steps)

pub returns-then-shared_fault : goal.returns-then-shared_fault
unfolding fault_at first
returns-then-shared_fault c = let a = c.args in
    let run' : run_fault a.disk.now.g a.disk.now.image.now a.s ≡ false = elim c.else-runs-s.branch [
      | else-runs-s-via-then-runs-s+else-run_fault w ↦ not_so w.run_fault.ensures w.if-run_fault.false
      | else-runs-s-via-else-runs-s w ↦ c.requires.2.run a.s (omega arith) c.requires.0
    ] in
    let gat' : gat_fault a.disk.now.g a.disk.now.image.now a.s ≡ false = elim c.else-runs-s-2.branch [
      | else-runs-s-2-via-then-runs-s-2+else-gat_fault w ↦ not_so w.gat_fault.ensures w.if-gat_fault.false
      | else-runs-s-2-via-else-runs-s-2 w ↦ c.requires.2.gat a.s (omega arith) c.requires.0
    ] in
    grind (arith, common_steps)

pub returns-then-size_fault : goal.returns-then-size_fault
unfolding fault_at first
returns-then-size_fault c = let a = c.args in
    let run' : run_fault a.disk.now.g a.disk.now.image.now a.s ≡ false = elim c.else-runs-s.branch [
      | else-runs-s-via-then-runs-s+else-run_fault w ↦ not_so w.run_fault.ensures w.if-run_fault.false
      | else-runs-s-via-else-runs-s w ↦ c.requires.2.run a.s (omega arith) c.requires.0
    ] in
    let gat' : gat_fault a.disk.now.g a.disk.now.image.now a.s ≡ false = elim c.else-runs-s-2.branch [
      | else-runs-s-2-via-then-runs-s-2+else-gat_fault w ↦ not_so w.gat_fault.ensures w.if-gat_fault.false
      | else-runs-s-2-via-else-runs-s-2 w ↦ c.requires.2.gat a.s (omega arith) c.requires.0
    ] in
    let shared' : shared_fault a.disk.now.g a.disk.now.image.now a.s ≡ false = elim c.else-runs-s-3.branch [
      | else-runs-s-3-via-then-runs-s-3+else-shared_fault w ↦ not_so w.shared_fault.ensures w.if-shared_fault.false
      | else-runs-s-3-via-else-runs-s-3 w ↦ c.requires.2.shared a.s (omega arith) c.requires.0
    ] in
    grind (arith, common_steps)

pub returns-then-directory_fault : goal.returns-then-directory_fault
unfolding fault_at first
returns-then-directory_fault c = let a = c.args in
    let run' : run_fault a.disk.now.g a.disk.now.image.now a.s ≡ false = elim c.else-runs-s.branch [
      | else-runs-s-via-then-runs-s+else-run_fault w ↦ not_so w.run_fault.ensures w.if-run_fault.false
      | else-runs-s-via-else-runs-s w ↦ c.requires.2.run a.s (omega arith) c.requires.0
    ] in
    let gat' : gat_fault a.disk.now.g a.disk.now.image.now a.s ≡ false = elim c.else-runs-s-2.branch [
      | else-runs-s-2-via-then-runs-s-2+else-gat_fault w ↦ not_so w.gat_fault.ensures w.if-gat_fault.false
      | else-runs-s-2-via-else-runs-s-2 w ↦ c.requires.2.gat a.s (omega arith) c.requires.0
    ] in
    let shared' : shared_fault a.disk.now.g a.disk.now.image.now a.s ≡ false = elim c.else-runs-s-3.branch [
      | else-runs-s-3-via-then-runs-s-3+else-shared_fault w ↦ not_so w.shared_fault.ensures w.if-shared_fault.false
      | else-runs-s-3-via-else-runs-s-3 w ↦ c.requires.2.shared a.s (omega arith) c.requires.0
    ] in
    grind (arith, common_steps)

pub returns : goal.returns
unfolding fault_at first
returns c = let a = c.args in
    let run' : run_fault a.disk.now.g a.disk.now.image.now a.s ≡ false = elim c.else-runs-s.branch [
      | else-runs-s-via-then-runs-s+else-run_fault w ↦ not_so w.run_fault.ensures w.if-run_fault.false
      | else-runs-s-via-else-runs-s w ↦ c.requires.2.run a.s (omega arith) c.requires.0
    ] in
    let gat' : gat_fault a.disk.now.g a.disk.now.image.now a.s ≡ false = elim c.else-runs-s-2.branch [
      | else-runs-s-2-via-then-runs-s-2+else-gat_fault w ↦ not_so w.gat_fault.ensures w.if-gat_fault.false
      | else-runs-s-2-via-else-runs-s-2 w ↦ c.requires.2.gat a.s (omega arith) c.requires.0
    ] in
    let shared' : shared_fault a.disk.now.g a.disk.now.image.now a.s ≡ false = elim c.else-runs-s-3.branch [
      | else-runs-s-3-via-then-runs-s-3+else-shared_fault w ↦ not_so w.shared_fault.ensures w.if-shared_fault.false
      | else-runs-s-3-via-else-runs-s-3 w ↦ c.requires.2.shared a.s (omega arith) c.requires.0
    ] in
    grind (arith, common_steps)
