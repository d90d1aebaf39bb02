-- The stub, walked up to the legacy function.
use Rattle.std.specs.Prelude.{true, nat_eq, nat_lt, if◌then◌else◌, [], ◌∷◌, ◌++◌, ◌^◌, negsuc, length}
use Rattle.std.proofs.Common.{◌≡◌, ℕ, ◌+◌, ◌<◌, ◌≤◌, inl, inr, refl, arith, ap, ◌∙◌, sym, subst}
use Rattle.std.proofs.lemmas.Bool.{cond_both}
use Rattle.std.proofs.lemmas.Bool.Decides.{nat_tests}
use Rattle.mx_base.specs.declared.limits.Bounds.{Bounds}
use Rattle.mx_base.specs.Bounds.{full_bounds}
use Rattle.mx_base.specs.Memory.{Bytes, number_at}
use Rattle.mx_base.proofs.MemoryLemmas.{number_at-lt}
use Rattle.obj_file.proofs.StoredBytes.{number_apart}
use Rattle.x86_forms.specs.declared.instr.Instr.TheVariants.{Lea, JmpRel}
use Rattle.x86_forms.specs.Processor.{Processor, with_reg, below_stack, address, part_written}
use Rattle.x86_forms.specs.Requests.{Ends}
use Rattle.x86_forms.specs.Table.{row}
use Rattle.obj_file.specs.Stored.{Stored}
use Rattle.call_sigs.specs.Signatures.{Signature, pointers}
use Rattle.call_gates.specs.Gates.{Code, reg, behind, clear_all, extend_parameters, init_from, not_carrying, stub_keeps, stub_clears, control_cell, legacy_cell, way}
use Rattle.legacy_calls.specs.Legacy.{Linkage, zero_flags}
use Rattle.gate_laws.specs.Placed.{HasCode, IsPlaced, StandsAt}
use Rattle.gate_laws.specs.Effects.{end_of, cleared, arrived, init_above}
use Rattle.gate_laws.proofs.Walks.{written, IsOwn, code_kept, Leads, then_on, free_leads, load_leads, store_leads, push_leads}
use Rattle.gate_laws.proofs.Straight.{copy_leads, set_leads, clear_leads, clear_all_leads, parameters_lead, placed_front, placed_back}
use Rattle.gate_laws.proofs.Borders.{init_leads}
use Rattle.gate_laws.proofs.Turns.{way_leads}

-- what is kept: the control stack pointer of the caller's caller, the legacy stack pointer, and the tail
abbrev pub kept_in : Stored → (q control legacy tail : ℕ) → Stored
kept_in y q control legacy tail = written (written (written (written y (q + 16) control) (q + 8) legacy) q tail) control_cell q

abbrev pub kept_regs : (ℕ → ℕ) → (q control legacy tail : ℕ) → ℕ → ℕ
kept_regs regs q control legacy tail =
    with_reg (with_reg (with_reg (with_reg (with_reg (with_reg (with_reg regs 0 control) 4 (q + 16)) 0 legacy) 4 (q + 8)) 10 tail) 4 q) 0 (below_stack legacy)

eight_below : (old v : ℕ) (regs : ℕ → ℕ) (next : ℕ) → regs 0 ≡ v → part_written 64 old (address regs next (behind 0 (negsuc 7))) ≡ below_stack v
unfolding address part_written
eight_below old v regs next e = omega arith

end_append : (a b : Code) (at : ℕ) → end_of at (a ++ b) ≡ end_of (end_of at a) b
end_append [] b at = refl
end_append (x ∷ a) b at = end_append a b (at + x.1)

end_parts : (a b c : Code) (at : ℕ) → end_of at (a ++ (b ++ c)) ≡ end_of (end_of (end_of at a) b) c
end_parts a b c at = end_append a (b ++ c) at ∙ end_append b c (end_of at a)

module _ (k : Linkage) (image : Bytes) where
  below_leads : (legacy : ℕ) (c : Processor) (y : Stored) → StandsAt k image c.rip (Lea (reg 0) (behind 0 (negsuc 7))) 4 → HasCode image y → c.regs 0 ≡ legacy
      → Leads k image c y (record c { rip = c.rip + 4; regs = with_reg c.regs 0 (below_stack legacy) }) y
  unfolding row
  below_leads legacy c y st code is =
      free_leads k image (Lea (reg 0) (behind 0 (negsuc 7))) 4 c (record c { rip = c.rip + 4; regs = with_reg c.regs 0 (below_stack legacy) }) y st code refl refl
      (ap (λ (v : ℕ). let d : Processor = record c { rip = c.rip + 4; regs = with_reg c.regs 0 v } in Ends d) (eight_below (c.regs 0) legacy c.regs (c.rip + 4) is)) (omega arith)

  pub keeps_lead : (q control legacy tail : ℕ) (c : Processor) (y : Stored) → IsPlaced k image c.rip (stub_keeps tail) → HasCode image y
      → 0x7100_0000 ≤ q → q + 24 ≤ 0x7200_0000 → c.regs 4 ≡ q + 24 → number_at 8 y.bytes control_cell ≡ control → number_at 8 y.bytes legacy_cell ≡ legacy → tail < 2 ^ 31
      → Leads k image c y (record c { rip = end_of c.rip (stub_keeps tail); regs = kept_regs c.regs q control legacy tail }) (kept_in y q control legacy tail)
  keeps_lead q control legacy tail c y p code low high sp is_c is_l small =
      let own_c : IsOwn control_cell = record { low = omega arith; place = inl (omega arith); high = omega arith } in
      let own_l : IsOwn legacy_cell = record { low = omega arith; place = inl (omega arith); high = omega arith } in
      let own_0 : IsOwn q = record { low = omega arith; place = inr (omega arith); high = omega arith } in
      let own_1 : IsOwn (q + 8) = record { low = omega arith; place = inr (omega arith); high = omega arith } in
      let own_2 : IsOwn (q + 16) = record { low = omega arith; place = inr (omega arith); high = omega arith } in
      let fits_c : control < 2 ^ 64 = let f = number_at-lt 8 y.bytes control_cell code.each_byte in omega arith in
      let fits_l : legacy < 2 ^ 64 = let f = number_at-lt 8 y.bytes legacy_cell code.each_byte in omega arith in
      let y1 = written y (q + 16) control in
      let y2 = written y1 (q + 8) legacy in
      let y3 = written y2 q tail in
      let y4 = written y3 control_cell q in
      let code1 = code_kept image y (q + 16) control own_2 code in
      let code2 = code_kept image y1 (q + 8) legacy own_1 code1 in
      let code3 = code_kept image y2 q tail own_0 code2 in
      let code4 = code_kept image y3 control_cell q own_c code3 in
      let still_l : number_at 8 y1.bytes legacy_cell ≡ legacy = number_apart y.bytes legacy_cell (q + 16) control (inl (omega arith)) ∙ is_l in
      let r1 = with_reg c.regs 0 control in
      let r2 = with_reg r1 4 (q + 16) in
      let r3 = with_reg r2 0 legacy in
      let r4 = with_reg r3 4 (q + 8) in
      let r5 = with_reg r4 10 tail in
      let r6 = with_reg r5 4 q in
      let r8 = with_reg r6 0 (below_stack legacy) in
      let a = c.rip in
      let c1 : Processor = record c { rip = a + 8; regs = r1 } in
      let c2 : Processor = record c { rip = a + 8 + 1; regs = r2 } in
      let c3 : Processor = record c { rip = a + 8 + 1 + 8; regs = r3 } in
      let c4 : Processor = record c { rip = a + 8 + 1 + 8 + 1; regs = r4 } in
      let c5 : Processor = record c { rip = a + 8 + 1 + 8 + 1 + 6; regs = r5 } in
      let c6 : Processor = record c { rip = a + 8 + 1 + 8 + 1 + 6 + 2; regs = r6 } in
      let c7 : Processor = record c { rip = a + 8 + 1 + 8 + 1 + 6 + 2 + 8; regs = r6 } in
      let c8 : Processor = record c { rip = a + 8 + 1 + 8 + 1 + 6 + 2 + 8 + 4; regs = r8 } in
      then_on k image c c1 c8 y y y4 (load_leads k image 0 control_cell control 8 c y p.0 (omega arith) code own_c (omega arith) is_c)
      (then_on k image c1 c2 c8 y y1 y4 (push_leads k image 0 (q + 16) control 1 c1 y p.1.0 (omega arith) code (sp ∙ omega arith) own_2 refl fits_c)
      (then_on k image c2 c3 c8 y1 y1 y4 (load_leads k image 0 legacy_cell legacy 8 c2 y1 p.1.1.0 (omega arith) code1 own_l (omega arith) still_l)
      (then_on k image c3 c4 c8 y1 y2 y4 (push_leads k image 0 (q + 8) legacy 1 c3 y1 p.1.1.1.0 (omega arith) code1 (omega arith) own_1 refl fits_l)
      (then_on k image c4 c5 c8 y2 y2 y4 (set_leads k image 10 tail 6 c4 y2 p.1.1.1.1.0 (omega arith) code2 small)
      (then_on k image c5 c6 c8 y2 y3 y4 (push_leads k image 10 q tail 2 c5 y2 p.1.1.1.1.1.0 (omega arith) code2 refl own_0 refl (omega arith))
      (then_on k image c6 c7 c8 y3 y4 y4 (store_leads k image 4 control_cell q 8 c6 y3 p.1.1.1.1.1.1.0 (omega arith) code3 own_c (omega arith) refl (omega arith))
      (below_leads legacy c7 y4 p.1.1.1.1.1.1.1.0 code4 refl)))))))

  -- ---- what comes behind the writing of the return address

  abbrev all_clear : Signature → Code
  all_clear sig = clear_all (10 ∷ 11 ∷ not_carrying (length sig.parameters))

  some_size : (r : ℕ) → 0 < (if nat_lt r 8 then 2 else 3)
  some_size r = cond_both (nat_lt r 8) 2 3 (λ (n : ℕ). 0 < n) (λ _. omega arith) (λ _. omega arith)

  pub jump_leads : (target : ℕ) (c : Processor) (y : Stored) → StandsAt k image c.rip (JmpRel true (way target (c.rip + 6))) 6 → HasCode image y → target < 2 ^ 62 → c.rip < target
      → Leads k image c y (record c { rip = target }) y
  unfolding row
  jump_leads target c y st code small forward =
      let inside = st.inside in
      let near : c.rip + 6 < 2 ^ 62 = grind (arith, nat_tests) in
      free_leads k image (JmpRel true (way target (c.rip + 6))) 6 c (record c { rip = target }) y st code refl refl (rw (way_leads target (c.rip + 6) small near) refl) forward

  -- the code behind the writing, with its addresses: copies rsp, the parameters, what carries nothing, and the bounds registers
  pub clears_lead : (sig : Signature) (sp : ℕ) (c : Processor) (y : Stored) → IsPlaced k image c.rip (stub_clears sig) → HasCode image y → c.regs 0 ≡ sp → sp < 2 ^ 64 → ((x : ℕ) → c.regs x < 2 ^ 64)
      → pointers sig.parameters ≤ 4 → (cleared (0 ∷ 10 ∷ 11 ∷ not_carrying (length sig.parameters)) (arrived 0 sig.parameters (with_reg c.regs 4 sp)) 0 ≡ 0)
      → (bounds : ℕ → Bounds) × ((x : ℕ) → x < 4 → init_above (pointers sig.parameters) c.bounds x ≡ bounds x) × ((P : Bounds → Type 0) → P full_bounds → ((x : ℕ) → P (c.bounds x)) → (x : ℕ) → P (bounds x))
      × Leads k image c y (record c { rip = end_of c.rip (stub_clears sig); regs = cleared (0 ∷ 10 ∷ 11 ∷ not_carrying (length sig.parameters)) (arrived 0 sig.parameters (with_reg c.regs 4 sp)); flags = zero_flags; bounds = bounds }) y
  clears_lead sig sp c y p code is small words few zeroed =
      let ps = sig.parameters in
      let extends = extend_parameters 0 ps in
      let zeros = clear_all (0 ∷ 10 ∷ 11 ∷ not_carrying (length ps)) in
      let inits = init_from 0 (pointers ps) in
      let r1 = with_reg c.regs 4 sp in
      let r2 = arrived 0 ps r1 in
      let r4 = cleared (0 ∷ 10 ∷ 11 ∷ not_carrying (length ps)) r2 in
      let words1 : (x : ℕ) → r1 x < 2 ^ 64 = λ x. cond_both (nat_eq x 4) sp (c.regs x) (λ (n : ℕ). n < 2 ^ 64) (λ _. small) (λ _. words x) in
      let a1 = c.rip + 3 in
      let a2 = end_of a1 extends in
      let a4 = end_of a2 zeros in
      let a5 = end_of a4 inits in
      let p1 : IsPlaced k image a1 (extends ++ (zeros ++ inits)) = p.1 in
      let p2 : IsPlaced k image a2 (zeros ++ inits) = placed_back k image extends (zeros ++ inits) a1 p1 in
      let p4 : IsPlaced k image a4 inits = placed_back k image zeros inits a2 p2 in
      let pz : IsPlaced k image a2 zeros = placed_front k image zeros inits a2 p2 in
      let c1 : Processor = record c { rip = a1; regs = r1 } in
      let c2 : Processor = record c { rip = a2; regs = r2 } in
      let c3 : Processor = record c { rip = a2 + 2; regs = with_reg r2 0 0; flags = zero_flags } in
      let c4 : Processor = record c { rip = a4; regs = r4; flags = zero_flags } in
      let h = init_leads k image (pointers ps) 0 c4 y p4 code zeroed few in
      let c5 : Processor = record c { rip = a5; regs = r4; flags = zero_flags; bounds = h.0 } in
      let ending : end_of c.rip (stub_clears sig) ≡ a5 = end_parts extends zeros inits a1 in (
        h.0,
        h.1,
        h.2,
        subst (λ (a : ℕ). Leads k image c y (record c { rip = a; regs = r4; flags = zero_flags; bounds = h.0 }) y) (sym ending)
            (then_on k image c c1 c5 y y y (copy_leads k image 4 0 sp 3 c y p.0 (omega arith) code is small)
            (then_on k image c1 c2 c5 y y y (parameters_lead k image 0 ps c1 y (placed_front k image extends (zeros ++ inits) a1 p1) code words1)
            (then_on k image c2 c3 c5 y y y (clear_leads k image 0 2 c2 y pz.0 (omega arith) code)
            (then_on k image c3 c4 c5 y y y (clear_all_leads k image (10 ∷ 11 ∷ not_carrying (length ps)) c3 y pz.1 code refl)
            h.3)))),
      )
