-- The outer entry, walked: up to the call of its function, and from behind it to its return.
use Rattle.std.specs.Prelude.{◌^◌}
use Rattle.std.proofs.Common.{◌≡◌, ℕ, ◌+◌, ◌<◌, ◌≤◌, inl, inr, refl, arith}
use Rattle.mx_base.specs.Memory.{Bytes, number_at}
use Rattle.mx_base.proofs.MemoryLemmas.{number_at-lt}
use Rattle.x86_forms.specs.Processor.{Processor, with_reg}
use Rattle.obj_file.specs.Stored.{Stored}
use Rattle.call_gates.specs.Gates.{outer_keeps, outer_restores, control_cell, legacy_cell}
use Rattle.legacy_calls.specs.Legacy.{Linkage}
use Rattle.gate_laws.specs.Placed.{HasCode, IsPlaced}
use Rattle.gate_laws.specs.Effects.{end_of}
use Rattle.gate_laws.proofs.Walks.{written, IsOwn, code_kept, Leads, then_on, load_leads, store_leads, push_leads, pop_leads}
use Rattle.gate_laws.proofs.Straight.{copy_leads, set_leads}

-- both cells are kept at p and p + 8, where the control stack pointer was p + 16
abbrev pub door_kept : Stored → (p legacy s : ℕ) → Stored
door_kept y p legacy s = written (written (written y (p + 8) (p + 16)) p legacy) legacy_cell s

abbrev pub door_regs : (ℕ → ℕ) → (p legacy s : ℕ) → ℕ → ℕ
door_regs regs p legacy s =
    with_reg (with_reg (with_reg (with_reg (with_reg (with_reg (with_reg (with_reg (with_reg regs 10 s) 4 control_cell) 4 (control_cell + 8)) 0 (p + 16)) 4 (legacy_cell + 8)) 11 legacy) 4 (p + 16)) 4 (p + 8)) 4 p

module _ (k : Linkage) (image : Bytes) where
  pub door_keeps_lead : (p legacy s : ℕ) (c : Processor) (y : Stored) → IsPlaced k image c.rip outer_keeps → HasCode image y → 0x7100_0000 ≤ p → p + 16 ≤ 0x7200_0000 → c.regs 4 ≡ s → s < 2 ^ 64
      → number_at 8 y.bytes control_cell ≡ p + 16 → number_at 8 y.bytes legacy_cell ≡ legacy
      → Leads k image c y (record c { rip = end_of c.rip outer_keeps; regs = door_regs c.regs p legacy s }) (door_kept y p legacy s)
  door_keeps_lead p legacy s c y pl code low high is_s small is_c is_l =
      let own_c : IsOwn control_cell = record { low = omega arith; place = inl (omega arith); high = omega arith } in
      let own_l : IsOwn legacy_cell = record { low = omega arith; place = inl (omega arith); high = omega arith } in
      let own_0 : IsOwn p = record { low = omega arith; place = inr (omega arith); high = omega arith } in
      let own_1 : IsOwn (p + 8) = record { low = omega arith; place = inr (omega arith); high = omega arith } in
      let fits_l : legacy < 2 ^ 64 = let f = number_at-lt 8 y.bytes legacy_cell code.each_byte in omega arith in
      let y1 = written y (p + 8) (p + 16) in
      let y2 = written y1 p legacy in
      let y3 = written y2 legacy_cell s in
      let code1 = code_kept image y (p + 8) (p + 16) own_1 code in
      let code2 = code_kept image y1 p legacy own_0 code1 in
      let r1 = with_reg c.regs 10 s in
      let r2 = with_reg r1 4 control_cell in
      let r3 = with_reg (with_reg r2 4 (control_cell + 8)) 0 (p + 16) in
      let r4 = with_reg (with_reg r3 4 (legacy_cell + 8)) 11 legacy in
      let r5 = with_reg r4 4 (p + 16) in
      let r6 = with_reg r5 4 (p + 8) in
      let r7 = with_reg r6 4 p in
      let a = c.rip in
      let c1 : Processor = record c { rip = a + 3; regs = r1 } in
      let c2 : Processor = record c { rip = a + 3 + 5; regs = r2 } in
      let c3 : Processor = record c { rip = a + 3 + 5 + 1; regs = r3 } in
      let c4 : Processor = record c { rip = a + 3 + 5 + 1 + 2; regs = r4 } in
      let c5 : Processor = record c { rip = a + 3 + 5 + 1 + 2 + 3; regs = r5 } in
      let c6 : Processor = record c { rip = a + 3 + 5 + 1 + 2 + 3 + 1; regs = r6 } in
      let c7 : Processor = record c { rip = a + 3 + 5 + 1 + 2 + 3 + 1 + 2; regs = r7 } in
      let c8 : Processor = record c { rip = a + 3 + 5 + 1 + 2 + 3 + 1 + 2 + 8; regs = r7 } in
      then_on k image c c1 c8 y y y3 (copy_leads k image 10 4 s 3 c y pl.0 (omega arith) code is_s small)
      (then_on k image c1 c2 c8 y y y3 (set_leads k image 4 control_cell 5 c1 y pl.1.0 (omega arith) code (omega arith))
      (then_on k image c2 c3 c8 y y y3 (pop_leads k image 0 control_cell (p + 16) 1 c2 y pl.1.1.0 (omega arith) code refl own_c is_c)
      (then_on k image c3 c4 c8 y y y3 (pop_leads k image 11 legacy_cell legacy 2 c3 y pl.1.1.1.0 (omega arith) code refl own_l is_l)
      (then_on k image c4 c5 c8 y y y3 (copy_leads k image 4 0 (p + 16) 3 c4 y pl.1.1.1.1.0 (omega arith) code refl (omega arith))
      (then_on k image c5 c6 c8 y y1 y3 (push_leads k image 0 (p + 8) (p + 16) 1 c5 y pl.1.1.1.1.1.0 (omega arith) code (omega arith) own_1 refl (omega arith))
      (then_on k image c6 c7 c8 y1 y2 y3 (push_leads k image 11 p legacy 2 c6 y1 pl.1.1.1.1.1.1.0 (omega arith) code1 refl own_0 refl fits_l)
      (store_leads k image 10 legacy_cell s 8 c7 y2 pl.1.1.1.1.1.1.1.0 (omega arith) code2 own_l (omega arith) refl small)))))))

  -- behind the call both cells are as they were, and rsp is the legacy stack pointer again
  abbrev pub door_left : Stored → (p legacy : ℕ) → Stored
  door_left y p legacy = written (written y legacy_cell legacy) control_cell (p + 16)

  abbrev pub left_regs : (ℕ → ℕ) → (p legacy s : ℕ) → ℕ → ℕ
  left_regs regs p legacy s = with_reg (with_reg (with_reg (with_reg (with_reg (with_reg regs 4 (p + 8)) 1 legacy) 4 (p + 8 + 8)) 2 (p + 16)) 10 s) 4 s

  pub door_restores_lead : (p legacy s : ℕ) (c : Processor) (y : Stored) → IsPlaced k image c.rip outer_restores → HasCode image y → 0x7100_0000 ≤ p → p + 16 ≤ 0x7200_0000 → c.regs 4 ≡ p
      → number_at 8 y.bytes p ≡ legacy → number_at 8 y.bytes (p + 8) ≡ p + 16 → number_at 8 y.bytes legacy_cell ≡ s
      → Leads k image c y (record c { rip = end_of c.rip outer_restores; regs = left_regs c.regs p legacy s }) (door_left y p legacy)
  door_restores_lead p legacy s c y pl code low high is_p is_l is_c is_s =
      let own_c : IsOwn control_cell = record { low = omega arith; place = inl (omega arith); high = omega arith } in
      let own_l : IsOwn legacy_cell = record { low = omega arith; place = inl (omega arith); high = omega arith } in
      let own_0 : IsOwn p = record { low = omega arith; place = inr (omega arith); high = omega arith } in
      let own_1 : IsOwn (p + 8) = record { low = omega arith; place = inr (omega arith); high = omega arith } in
      let fits_l : legacy < 2 ^ 64 = let f = number_at-lt 8 y.bytes p code.each_byte in omega arith in
      let fits_s : s < 2 ^ 64 = let f = number_at-lt 8 y.bytes legacy_cell code.each_byte in omega arith in
      let y1 = written y legacy_cell legacy in
      let y2 = written y1 control_cell (p + 16) in
      let code1 = code_kept image y legacy_cell legacy own_l code in
      let code2 = code_kept image y1 control_cell (p + 16) own_c code1 in
      let r1 = with_reg (with_reg c.regs 4 (p + 8)) 1 legacy in
      let r2 = with_reg (with_reg r1 4 (p + 8 + 8)) 2 (p + 16) in
      let r3 = with_reg r2 10 s in
      let r4 = with_reg r3 4 s in
      let a = c.rip in
      let c1 : Processor = record c { rip = a + 1; regs = r1 } in
      let c2 : Processor = record c { rip = a + 1 + 1; regs = r2 } in
      let c3 : Processor = record c { rip = a + 1 + 1 + 8; regs = r3 } in
      let c4 : Processor = record c { rip = a + 1 + 1 + 8 + 8; regs = r3 } in
      let c5 : Processor = record c { rip = a + 1 + 1 + 8 + 8 + 8; regs = r3 } in
      let c6 : Processor = record c { rip = a + 1 + 1 + 8 + 8 + 8 + 3; regs = r4 } in
      then_on k image c c1 c6 y y y2 (pop_leads k image 1 p legacy 1 c y pl.0 (omega arith) code is_p own_0 is_l)
      (then_on k image c1 c2 c6 y y y2 (pop_leads k image 2 (p + 8) (p + 16) 1 c1 y pl.1.0 (omega arith) code refl own_1 is_c)
      (then_on k image c2 c3 c6 y y y2 (load_leads k image 10 legacy_cell s 8 c2 y pl.1.1.0 (omega arith) code own_l (omega arith) is_s)
      (then_on k image c3 c4 c6 y y1 y2 (store_leads k image 1 legacy_cell legacy 8 c3 y pl.1.1.1.0 (omega arith) code own_l (omega arith) refl fits_l)
      (then_on k image c4 c5 c6 y1 y2 y2 (store_leads k image 2 control_cell (p + 16) 8 c4 y1 pl.1.1.1.1.0 (omega arith) code1 own_c (omega arith) refl (omega arith))
      (copy_leads k image 4 10 s 3 c5 y2 pl.1.1.1.1.1.0 (omega arith) code2 refl fits_s)))))
