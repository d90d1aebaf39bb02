-- The border: what stands in the registers where legacy code begins.
use Rattle.std.specs.Prelude.{◌≢◌, Bool, true, false, ◌&&◌, nat_le, nat_lt, nat_eq, ◌==◌, if◌then◌else◌, Option, None, Some, List, [], ◌∷◌, negsuc, length}
use Rattle.std.proofs.Common.{◌≡◌, ℕ, zero, suc, ◌+◌, ◌<◌, ◌≤◌, ◌⊎◌, inl, inr, refl, arith, ap, ◌∙◌, sym}
use Rattle.std.proofs.lemmas.Bool.{cond_both}
use Rattle.std.proofs.lemmas.Bool.Decides.{nat_tests, eqb_tells}
use Rattle.mx_base.specs.declared.limits.Bounds.{Bounds}
use Rattle.mx_base.specs.declared.numbers.IntKind.{IntKind}
use Rattle.mx_base.specs.Bounds.{full_bounds}
use Rattle.mx_base.specs.Memory.{Bytes}
use Rattle.x86_forms.specs.declared.instr.Rm.TheVariants.{Reg as InReg}
use Rattle.x86_forms.specs.declared.instr.Instr.TheVariants.{Bndmk, BndmovFrom}
use Rattle.x86_forms.specs.Processor.{Processor, with_reg, with_bounds, address}
use Rattle.x86_forms.specs.Table.{row}
use Rattle.obj_file.specs.Stored.{Stored}
use Rattle.fat_ir.specs.Values.{Value}
use Rattle.call_sigs.specs.Signatures.{pointers, parameter_register}
use Rattle.call_gates.specs.Gates.{reg, behind, init_from, not_carrying}
use Rattle.legacy_calls.specs.Legacy.{Linkage, word_as, bare_regs, far_of, with_arguments, with_pointers}
use Rattle.gate_laws.specs.Placed.{HasCode, StandsAt, IsPlaced}
use Rattle.gate_laws.specs.Standing.{Arrive}
use Rattle.gate_laws.specs.Effects.{end_of, cleared, arrived, init_above}
use Rattle.gate_laws.proofs.Walks.{Leads, then_on, free_leads}

-- ---- by register

pub each_reg : (P : ℕ → Type 0) → P 0 → P 1 → P 2 → P 3 → P 4 → P 5 → P 6 → P 7 → P 8 → P 9 → P 10 → P 11 → P 12 → P 13 → P 14 → P 15 → (r : ℕ) → r < 16 → P r
each_reg P p0 p1 p2 p3 p4 p5 p6 p7 p8 p9 p10 p11 p12 p13 p14 p15 zero h = p0
each_reg P p0 p1 p2 p3 p4 p5 p6 p7 p8 p9 p10 p11 p12 p13 p14 p15 (suc zero) h = p1
each_reg P p0 p1 p2 p3 p4 p5 p6 p7 p8 p9 p10 p11 p12 p13 p14 p15 (suc (suc zero)) h = p2
each_reg P p0 p1 p2 p3 p4 p5 p6 p7 p8 p9 p10 p11 p12 p13 p14 p15 (suc (suc (suc zero))) h = p3
each_reg P p0 p1 p2 p3 p4 p5 p6 p7 p8 p9 p10 p11 p12 p13 p14 p15 (suc (suc (suc (suc zero)))) h = p4
each_reg P p0 p1 p2 p3 p4 p5 p6 p7 p8 p9 p10 p11 p12 p13 p14 p15 (suc (suc (suc (suc (suc zero))))) h = p5
each_reg P p0 p1 p2 p3 p4 p5 p6 p7 p8 p9 p10 p11 p12 p13 p14 p15 (suc (suc (suc (suc (suc (suc zero)))))) h = p6
each_reg P p0 p1 p2 p3 p4 p5 p6 p7 p8 p9 p10 p11 p12 p13 p14 p15 (suc (suc (suc (suc (suc (suc (suc zero))))))) h = p7
each_reg P p0 p1 p2 p3 p4 p5 p6 p7 p8 p9 p10 p11 p12 p13 p14 p15 (suc (suc (suc (suc (suc (suc (suc (suc zero)))))))) h = p8
each_reg P p0 p1 p2 p3 p4 p5 p6 p7 p8 p9 p10 p11 p12 p13 p14 p15 (suc (suc (suc (suc (suc (suc (suc (suc (suc zero))))))))) h = p9
each_reg P p0 p1 p2 p3 p4 p5 p6 p7 p8 p9 p10 p11 p12 p13 p14 p15 (suc (suc (suc (suc (suc (suc (suc (suc (suc (suc zero)))))))))) h = p10
each_reg P p0 p1 p2 p3 p4 p5 p6 p7 p8 p9 p10 p11 p12 p13 p14 p15 (suc (suc (suc (suc (suc (suc (suc (suc (suc (suc (suc zero))))))))))) h = p11
each_reg P p0 p1 p2 p3 p4 p5 p6 p7 p8 p9 p10 p11 p12 p13 p14 p15 (suc (suc (suc (suc (suc (suc (suc (suc (suc (suc (suc (suc zero)))))))))))) h = p12
each_reg P p0 p1 p2 p3 p4 p5 p6 p7 p8 p9 p10 p11 p12 p13 p14 p15 (suc (suc (suc (suc (suc (suc (suc (suc (suc (suc (suc (suc (suc zero))))))))))))) h = p13
each_reg P p0 p1 p2 p3 p4 p5 p6 p7 p8 p9 p10 p11 p12 p13 p14 p15 (suc (suc (suc (suc (suc (suc (suc (suc (suc (suc (suc (suc (suc (suc zero)))))))))))))) h = p14
each_reg P p0 p1 p2 p3 p4 p5 p6 p7 p8 p9 p10 p11 p12 p13 p14 p15 (suc (suc (suc (suc (suc (suc (suc (suc (suc (suc (suc (suc (suc (suc (suc zero))))))))))))))) h = p15
each_reg P p0 p1 p2 p3 p4 p5 p6 p7 p8 p9 p10 p11 p12 p13 p14 p15 (suc (suc (suc (suc (suc (suc (suc (suc (suc (suc (suc (suc (suc (suc (suc (suc n)))))))))))))))) h = absurd (omega arith)

pub each_bound : (P : ℕ → Type 0) → P 0 → P 1 → P 2 → P 3 → (b : ℕ) → b < 4 → P b
each_bound P p0 p1 p2 p3 zero h = p0
each_bound P p0 p1 p2 p3 (suc zero) h = p1
each_bound P p0 p1 p2 p3 (suc (suc zero)) h = p2
each_bound P p0 p1 p2 p3 (suc (suc (suc zero))) h = p3
each_bound P p0 p1 p2 p3 (suc (suc (suc (suc n)))) h = absurd (omega arith)

-- the numbers of arguments in their registers
abbrev pub NumbersArrive : (k : ℕ) → List (Option IntKind) → List Value → (ℕ → ℕ) → Type 0
NumbersArrive k [] [] regs = Unit {0}
NumbersArrive k [] (a ∷ args) regs = ⊥
NumbersArrive k (p ∷ ps) [] regs = ⊥
NumbersArrive k (p ∷ ps) (a ∷ args) regs = (regs (parameter_register k) ≡ a.number) × NumbersArrive (k + 1) ps args regs

pub numbers_arrive : (k b : ℕ) (ps : List (Option IntKind)) (args : List Value) (c : Processor) → Arrive k b ps args c → NumbersArrive k ps args c.regs
numbers_arrive k b [] [] c h = tt
numbers_arrive k b [] (a ∷ args) c h = absurd h
numbers_arrive k b (None ∷ ps) [] c h = absurd h
numbers_arrive k b (Some kind ∷ ps) [] c h = absurd h
numbers_arrive k b (None ∷ ps) (a ∷ args) c h = (h.0, numbers_arrive (k + 1) (b + 1) ps args c h.2)
numbers_arrive k b (Some kind ∷ ps) (a ∷ args) c h = (h.0, numbers_arrive (k + 1) b ps args c h.1)

lengths : (k : ℕ) (ps : List (Option IntKind)) (args : List Value) (regs : ℕ → ℕ) → NumbersArrive k ps args regs → length ps ≡ length args
lengths k [] [] regs h = refl
lengths k [] (a ∷ args) regs h = absurd h
lengths k (p ∷ ps) [] regs h = absurd h
lengths k (p ∷ ps) (a ∷ args) regs h = ap suc (lengths (k + 1) ps args regs h.1)

-- what the stub leaves in the registers: `sp` is the place of the return address
abbrev pub RegsAlike : List (Option IntKind) → List Value → (ℕ → ℕ) → ℕ → Type 0
RegsAlike ps args regs sp = (r : ℕ) → r < 16
    → with_arguments 0 ps args (bare_regs (far_of regs) sp) r ≡ cleared (0 ∷ 10 ∷ 11 ∷ not_carrying (length ps)) (arrived 0 ps (with_reg regs 4 sp)) r

pub regs_alike : (ps : List (Option IntKind)) (args : List Value) (regs : ℕ → ℕ) (sp : ℕ) → length ps ≤ 6 → NumbersArrive 0 ps args regs → RegsAlike ps args regs sp
regs_alike [] [] regs sp few h = each_reg (λ r. with_arguments 0 [] [] (bare_regs (far_of regs) sp) r ≡ cleared (0 ∷ 10 ∷ 11 ∷ not_carrying 0) (arrived 0 [] (with_reg regs 4 sp)) r) refl refl refl refl refl refl refl refl refl refl refl refl refl refl refl refl
regs_alike (p0 ∷ []) (a0 ∷ []) regs sp few h = each_reg (λ r. with_arguments 0 (p0 ∷ []) (a0 ∷ []) (bare_regs (far_of regs) sp) r ≡ cleared (0 ∷ 10 ∷ 11 ∷ not_carrying 1) (arrived 0 (p0 ∷ []) (with_reg regs 4 sp)) r) refl refl refl refl refl refl refl (ap (word_as p0) (sym h.0)) refl refl refl refl refl refl refl refl
regs_alike (p0 ∷ p1 ∷ []) (a0 ∷ a1 ∷ []) regs sp few h = each_reg (λ r. with_arguments 0 (p0 ∷ p1 ∷ []) (a0 ∷ a1 ∷ []) (bare_regs (far_of regs) sp) r ≡ cleared (0 ∷ 10 ∷ 11 ∷ not_carrying 2) (arrived 0 (p0 ∷ p1 ∷ []) (with_reg regs 4 sp)) r) refl refl refl refl refl refl (ap (word_as p1) (sym h.1.0)) (ap (word_as p0) (sym h.0)) refl refl refl refl refl refl refl refl
regs_alike (p0 ∷ p1 ∷ p2 ∷ []) (a0 ∷ a1 ∷ a2 ∷ []) regs sp few h = each_reg (λ r. with_arguments 0 (p0 ∷ p1 ∷ p2 ∷ []) (a0 ∷ a1 ∷ a2 ∷ []) (bare_regs (far_of regs) sp) r ≡ cleared (0 ∷ 10 ∷ 11 ∷ not_carrying 3) (arrived 0 (p0 ∷ p1 ∷ p2 ∷ []) (with_reg regs 4 sp)) r) refl refl (ap (word_as p2) (sym h.1.1.0)) refl refl refl (ap (word_as p1) (sym h.1.0)) (ap (word_as p0) (sym h.0)) refl refl refl refl refl refl refl refl
regs_alike (p0 ∷ p1 ∷ p2 ∷ p3 ∷ []) (a0 ∷ a1 ∷ a2 ∷ a3 ∷ []) regs sp few h = each_reg (λ r. with_arguments 0 (p0 ∷ p1 ∷ p2 ∷ p3 ∷ []) (a0 ∷ a1 ∷ a2 ∷ a3 ∷ []) (bare_regs (far_of regs) sp) r ≡ cleared (0 ∷ 10 ∷ 11 ∷ not_carrying 4) (arrived 0 (p0 ∷ p1 ∷ p2 ∷ p3 ∷ []) (with_reg regs 4 sp)) r) refl (ap (word_as p3) (sym h.1.1.1.0)) (ap (word_as p2) (sym h.1.1.0)) refl refl refl (ap (word_as p1) (sym h.1.0)) (ap (word_as p0) (sym h.0)) refl refl refl refl refl refl refl refl
regs_alike (p0 ∷ p1 ∷ p2 ∷ p3 ∷ p4 ∷ []) (a0 ∷ a1 ∷ a2 ∷ a3 ∷ a4 ∷ []) regs sp few h = each_reg (λ r. with_arguments 0 (p0 ∷ p1 ∷ p2 ∷ p3 ∷ p4 ∷ []) (a0 ∷ a1 ∷ a2 ∷ a3 ∷ a4 ∷ []) (bare_regs (far_of regs) sp) r ≡ cleared (0 ∷ 10 ∷ 11 ∷ not_carrying 5) (arrived 0 (p0 ∷ p1 ∷ p2 ∷ p3 ∷ p4 ∷ []) (with_reg regs 4 sp)) r) refl (ap (word_as p3) (sym h.1.1.1.0)) (ap (word_as p2) (sym h.1.1.0)) refl refl refl (ap (word_as p1) (sym h.1.0)) (ap (word_as p0) (sym h.0)) (ap (word_as p4) (sym h.1.1.1.1.0)) refl refl refl refl refl refl refl
regs_alike (p0 ∷ p1 ∷ p2 ∷ p3 ∷ p4 ∷ p5 ∷ []) (a0 ∷ a1 ∷ a2 ∷ a3 ∷ a4 ∷ a5 ∷ []) regs sp few h = each_reg (λ r. with_arguments 0 (p0 ∷ p1 ∷ p2 ∷ p3 ∷ p4 ∷ p5 ∷ []) (a0 ∷ a1 ∷ a2 ∷ a3 ∷ a4 ∷ a5 ∷ []) (bare_regs (far_of regs) sp) r ≡ cleared (0 ∷ 10 ∷ 11 ∷ not_carrying 6) (arrived 0 (p0 ∷ p1 ∷ p2 ∷ p3 ∷ p4 ∷ p5 ∷ []) (with_reg regs 4 sp)) r) refl (ap (word_as p3) (sym h.1.1.1.0)) (ap (word_as p2) (sym h.1.1.0)) refl refl refl (ap (word_as p1) (sym h.1.0)) (ap (word_as p0) (sym h.0)) (ap (word_as p4) (sym h.1.1.1.1.0)) (ap (word_as p5) (sym h.1.1.1.1.1.0)) refl refl refl refl refl refl
regs_alike ps args regs sp few h = let e : length ps ≡ length args = lengths 0 ps args regs h in absurd (omega arith)

-- ---- bounds registers

within : (j n b : ℕ) → Bool
within j n b = nat_le j b && nat_lt b (j + n)

pub pointers_alike : (k j : ℕ) (ps : List (Option IntKind)) (args : List Value) (c : Processor) (base : ℕ → Bounds) → Arrive k j ps args c
    → (b : ℕ) → with_pointers j ps args base b ≡ (if nat_le j b && nat_lt b (j + pointers ps) then c.bounds b else base b)
pointers_alike k j [] [] c base h b = let none : (nat_le j b && nat_lt b (j + 0)) ≡ false = grind (arith, nat_tests) in rw none refl
pointers_alike k j [] (a ∷ args) c base h b = absurd h
pointers_alike k j (None ∷ ps) [] c base h b = absurd h
pointers_alike k j (Some kind ∷ ps) [] c base h b = absurd h
pointers_alike k j (Some kind ∷ ps) (a ∷ args) c base h b = pointers_alike (k + 1) j ps args c base h.1 b
pointers_alike k j (None ∷ ps) (a ∷ args) c base h b =
    pointers_alike (k + 1) (j + 1) ps args c (with_bounds base j a.bounds) h.2 b ∙ step (eqb_tells b j)
  where
    step : ((b == j) ≡ true) × (b ≡ j) ⊎ ((b == j) ≡ false) × (b ≢ j)
        → (if nat_le (j + 1) b && nat_lt b (j + 1 + pointers ps) then c.bounds b else (if nat_eq b j then a.bounds else base b)) ≡ (if nat_le j b && nat_lt b (j + (1 + pointers ps)) then c.bounds b else base b)
    step (inl e) =
        let same = e.1 in
        let no : (nat_le (j + 1) b && nat_lt b (j + 1 + pointers ps)) ≡ false = grind (arith, nat_tests) in
        let yes : (nat_le j b && nat_lt b (j + (1 + pointers ps))) ≡ true = grind (arith, nat_tests) in
        rw (no, yes, e.0) (sym h.1 ∙ ap c.bounds (sym same))
    step (inr e) =
        let other = e.1 in
        let alike : (nat_le (j + 1) b && nat_lt b (j + 1 + pointers ps)) ≡ (nat_le j b && nat_lt b (j + (1 + pointers ps))) = grind (arith, nat_tests) in
        rw (alike, e.0) refl

module _ (k : Linkage) (image : Bytes) where
  make_leads : (b none size : ℕ) (c : Processor) (y : Stored) → StandsAt k image c.rip (Bndmk b (behind none (negsuc 0))) size → 0 < size → HasCode image y → c.regs none ≡ 0
      → Leads k image c y (record c { rip = c.rip + size; bounds = with_bounds c.bounds b full_bounds }) y
  unfolding row address
  make_leads b none size c y st some code is =
      free_leads k image (Bndmk b (behind none (negsuc 0))) size c (record c { rip = c.rip + size; bounds = with_bounds c.bounds b full_bounds }) y st code refl refl (rw is refl) (omega arith)

  widen_leads : (b from size : ℕ) (v : Bounds) (c : Processor) (y : Stored) → StandsAt k image c.rip (BndmovFrom b (InReg (reg from))) size → 0 < size → HasCode image y → c.bounds from ≡ v
      → Leads k image c y (record c { rip = c.rip + size; bounds = with_bounds c.bounds b v }) y
  unfolding row
  widen_leads b from size v c y st some code is =
      free_leads k image (BndmovFrom b (InReg (reg from))) size c (record c { rip = c.rip + size; bounds = with_bounds c.bounds b v }) y st code refl refl (rw is refl) (omega arith)

  -- bounds registers from one on become INIT
  pub init_leads : (b none : ℕ) (c : Processor) (y : Stored) → IsPlaced k image c.rip (init_from none b) → HasCode image y → c.regs none ≡ 0 → b ≤ 4
      → (bounds : ℕ → Bounds) × ((x : ℕ) → x < 4 → init_above b c.bounds x ≡ bounds x) × ((P : Bounds → Type 0) → P full_bounds → ((x : ℕ) → P (c.bounds x)) → (x : ℕ) → P (bounds x)) × Leads k image c y (record c { rip = end_of c.rip (init_from none b); bounds = bounds }) y
  init_leads zero none c y p code is few =
      let b0 = with_bounds c.bounds 0 full_bounds in
      let c1 : Processor = record c { rip = c.rip + 5; bounds = b0 } in
      let b1 = with_bounds b0 1 full_bounds in
      let c2 : Processor = record c { rip = c.rip + 5 + 4; bounds = b1 } in
      let b2 = with_bounds b1 2 full_bounds in
      let c3 : Processor = record c { rip = c.rip + 5 + 4 + 4; bounds = b2 } in
      let b3 = with_bounds b2 3 full_bounds in
      let c4 : Processor = record c { rip = c.rip + 5 + 4 + 4 + 4; bounds = b3 } in (
        b3,
        each_bound (λ x. init_above 0 c.bounds x ≡ b3 x) refl refl refl refl,
        (λ P f h x. (cond_both (nat_eq x 3) full_bounds ((with_bounds (with_bounds (with_bounds c.bounds 0 full_bounds) 1 full_bounds) 2 full_bounds) x) P (λ _. f) (λ _. (cond_both (nat_eq x 2) full_bounds ((with_bounds (with_bounds c.bounds 0 full_bounds) 1 full_bounds) x) P (λ _. f) (λ _. (cond_both (nat_eq x 1) full_bounds ((with_bounds c.bounds 0 full_bounds) x) P (λ _. f) (λ _. (cond_both (nat_eq x 0) full_bounds (c.bounds x) P (λ _. f) (λ _. (h x)))))))))),
        then_on k image c c1 c4 y y y (make_leads 0 none 5 c y p.0 (omega arith) code is) (then_on k image c1 c2 c4 y y y (widen_leads 1 0 4 full_bounds c1 y p.1.0 (omega arith) code refl) (then_on k image c2 c3 c4 y y y (widen_leads 2 0 4 full_bounds c2 y p.1.1.0 (omega arith) code refl) (widen_leads 3 0 4 full_bounds c3 y p.1.1.1.0 (omega arith) code refl))),
      )
  init_leads (suc zero) none c y p code is few =
      let b0 = with_bounds c.bounds 1 full_bounds in
      let c1 : Processor = record c { rip = c.rip + 5; bounds = b0 } in
      let b1 = with_bounds b0 2 full_bounds in
      let c2 : Processor = record c { rip = c.rip + 5 + 4; bounds = b1 } in
      let b2 = with_bounds b1 3 full_bounds in
      let c3 : Processor = record c { rip = c.rip + 5 + 4 + 4; bounds = b2 } in (
        b2,
        each_bound (λ x. init_above 1 c.bounds x ≡ b2 x) refl refl refl refl,
        (λ P f h x. (cond_both (nat_eq x 3) full_bounds ((with_bounds (with_bounds c.bounds 1 full_bounds) 2 full_bounds) x) P (λ _. f) (λ _. (cond_both (nat_eq x 2) full_bounds ((with_bounds c.bounds 1 full_bounds) x) P (λ _. f) (λ _. (cond_both (nat_eq x 1) full_bounds (c.bounds x) P (λ _. f) (λ _. (h x)))))))),
        then_on k image c c1 c3 y y y (make_leads 1 none 5 c y p.0 (omega arith) code is) (then_on k image c1 c2 c3 y y y (widen_leads 2 1 4 full_bounds c1 y p.1.0 (omega arith) code refl) (widen_leads 3 1 4 full_bounds c2 y p.1.1.0 (omega arith) code refl)),
      )
  init_leads (suc (suc zero)) none c y p code is few =
      let b0 = with_bounds c.bounds 2 full_bounds in
      let c1 : Processor = record c { rip = c.rip + 5; bounds = b0 } in
      let b1 = with_bounds b0 3 full_bounds in
      let c2 : Processor = record c { rip = c.rip + 5 + 4; bounds = b1 } in (
        b1,
        each_bound (λ x. init_above 2 c.bounds x ≡ b1 x) refl refl refl refl,
        (λ P f h x. (cond_both (nat_eq x 3) full_bounds ((with_bounds c.bounds 2 full_bounds) x) P (λ _. f) (λ _. (cond_both (nat_eq x 2) full_bounds (c.bounds x) P (λ _. f) (λ _. (h x)))))),
        then_on k image c c1 c2 y y y (make_leads 2 none 5 c y p.0 (omega arith) code is) (widen_leads 3 2 4 full_bounds c1 y p.1.0 (omega arith) code refl),
      )
  init_leads (suc (suc (suc zero))) none c y p code is few =
      let b0 = with_bounds c.bounds 3 full_bounds in
      let c1 : Processor = record c { rip = c.rip + 5; bounds = b0 } in (
        b0,
        each_bound (λ x. init_above 3 c.bounds x ≡ b0 x) refl refl refl refl,
        (λ P f h x. (cond_both (nat_eq x 3) full_bounds (c.bounds x) P (λ _. f) (λ _. (h x)))),
        make_leads 3 none 5 c y p.0 (omega arith) code is,
      )
  init_leads (suc (suc (suc (suc zero)))) none c y p code is few = (c.bounds, each_bound (λ x. init_above 4 c.bounds x ≡ c.bounds x) refl refl refl refl, (λ P f h x. h x), λ g n turns made. (n, refl))
  init_leads (suc (suc (suc (suc (suc n))))) none c y p code is few = absurd (omega arith)
