-- The landing, walked.
use Rattle.std.proofs.Common.{◌≡◌, ℕ, ◌+◌, ◌≤◌, inl, inr, refl, arith, ap, ◌∙◌}
use Rattle.mx_base.specs.Memory.{Bytes, number_at}
use Rattle.mx_base.proofs.MemoryLemmas.{number_at-lt}
use Rattle.obj_file.proofs.StoredBytes.{number_apart}
use Rattle.x86_forms.specs.Processor.{Processor, with_reg}
use Rattle.obj_file.specs.Stored.{Stored}
use Rattle.call_gates.specs.Gates.{landing_gate, landing_at, control_cell, legacy_cell}
use Rattle.legacy_calls.specs.Legacy.{Linkage}
use Rattle.gate_laws.specs.Placed.{HasCode, IsPlaced}
use Rattle.gate_laws.proofs.Walks.{written, IsOwn, code_kept, Leads, then_on, load_leads, store_leads, pop_leads, jump_leads}

-- the stub kept three words here, at the bottom of the control stack
pub record IsKept (y : Stored) (sp tail legacy control : ℕ) : Type 0 where
  pub low : 0x7100_0000 ≤ sp
  pub high : sp + 24 ≤ 0x7200_0000
  pub cell : number_at 8 y.bytes control_cell ≡ sp
  pub tail_is : number_at 8 y.bytes sp ≡ tail
  pub legacy_is : number_at 8 y.bytes (sp + 8) ≡ legacy
  pub control_is : number_at 8 y.bytes (sp + 16) ≡ control

abbrev pub after_landing : Stored → (legacy control : ℕ) → Stored
after_landing y legacy control = written (written y legacy_cell legacy) control_cell control

module _ (k : Linkage) (image : Bytes) where
  pub landing_leads : (sp tail legacy control : ℕ) (c : Processor) (y : Stored) → IsPlaced k image landing_at landing_gate → HasCode image y → IsKept y sp tail legacy control
      → 0x0100_0800 ≤ tail
      → Leads k image (record c { rip = landing_at }) y
      (record c { rip = tail; regs = with_reg (with_reg (with_reg (with_reg (with_reg (with_reg (with_reg c.regs 4 sp) 4 (sp + 8)) 11 tail) 4 (sp + 8 + 8)) 1 legacy) 4 (sp + 8 + 8 + 8)) 1 control })
      (after_landing y legacy control)
  landing_leads sp tail legacy control c y p code kept far =
      let low = kept.low in
      let high = kept.high in
      let own_c : IsOwn control_cell = record { low = omega arith; place = inl (omega arith); high = omega arith } in
      let own_l : IsOwn legacy_cell = record { low = omega arith; place = inl (omega arith); high = omega arith } in
      let own_0 : IsOwn sp = record { low = omega arith; place = inr (omega arith); high = omega arith } in
      let own_1 : IsOwn (sp + 8) = record { low = omega arith; place = inr (omega arith); high = omega arith } in
      let own_2 : IsOwn (sp + 8 + 8) = record { low = omega arith; place = inr (omega arith); high = omega arith } in
      let small_tail = number_at-lt 8 y.bytes sp code.each_byte in
      let is_tail = kept.tail_is in
      let small_l = number_at-lt 8 y.bytes (sp + 8) code.each_byte in
      let is_l = kept.legacy_is in
      let small_c = number_at-lt 8 y.bytes (sp + 16) code.each_byte in
      let is_c = kept.control_is in
      let y1 : Stored = written y legacy_cell legacy in
      let code1 = code_kept image y legacy_cell legacy own_l code in
      let still : number_at 8 y1.bytes (sp + 8 + 8) ≡ control = number_apart y.bytes (sp + 8 + 8) legacy_cell legacy (inr (omega arith)) ∙ ap (λ (a : ℕ). number_at 8 y.bytes a) (let e : sp + 8 + 8 ≡ sp + 16 = omega arith in e) ∙ is_c in
      let r1 = with_reg c.regs 4 sp in
      let r2 = with_reg (with_reg r1 4 (sp + 8)) 11 tail in
      let r3 = with_reg (with_reg r2 4 (sp + 8 + 8)) 1 legacy in
      let r4 = with_reg (with_reg r3 4 (sp + 8 + 8 + 8)) 1 control in
      let c0 : Processor = record c { rip = landing_at } in
      let c1 : Processor = record c { rip = landing_at + 8; regs = r1 } in
      let c2 : Processor = record c { rip = landing_at + 10; regs = r2 } in
      let c3 : Processor = record c { rip = landing_at + 11; regs = r3 } in
      let c4 : Processor = record c { rip = landing_at + 19; regs = r3 } in
      let c5 : Processor = record c { rip = landing_at + 20; regs = r4 } in
      let c6 : Processor = record c { rip = landing_at + 28; regs = r4 } in
      let c7 : Processor = record c { rip = tail; regs = r4 } in
      let y2 : Stored = written y1 control_cell control in
      let code2 = code_kept image y1 control_cell control own_c code1 in
      then_on k image c0 c1 c7 y y y2 (load_leads k image 4 control_cell sp 8 c0 y p.0 (omega arith) code own_c (omega arith) kept.cell)
      (then_on k image c1 c2 c7 y y y2 (pop_leads k image 11 sp tail 2 c1 y p.1.0 (omega arith) code refl own_0 kept.tail_is)
      (then_on k image c2 c3 c7 y y y2 (pop_leads k image 1 (sp + 8) legacy 1 c2 y p.1.1.0 (omega arith) code refl own_1 kept.legacy_is)
      (then_on k image c3 c4 c7 y y1 y2 (store_leads k image 1 legacy_cell legacy 8 c3 y p.1.1.1.0 (omega arith) code own_l (omega arith) refl (omega arith))
      (then_on k image c4 c5 c7 y1 y1 y2 (pop_leads k image 1 (sp + 8 + 8) control 1 c4 y1 p.1.1.1.1.0 (omega arith) code1 refl own_2 still)
      (then_on k image c5 c6 c7 y1 y2 y2 (store_leads k image 1 control_cell control 8 c5 y1 p.1.1.1.1.1.0 (omega arith) code1 own_c (omega arith) refl (omega arith))
      (jump_leads k image 11 tail 4 c6 y2 p.1.1.1.1.1.1.0 code2 refl (omega arith) (omega arith)))))))
