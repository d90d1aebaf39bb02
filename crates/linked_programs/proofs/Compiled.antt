-- The functions of linked units are compiled as programs want it.
use Rattle.std.proofs.Common.{◌≡◌, ◌++◌, suc, ℕ, ◌+◌, ◌^◌, ◌<◌, ◌≤◌, Bool, true, false, Option, None, Some, List, [], ◌∷◌, length, refl, sym, ap, subst, arith}
use Rattle.std.proofs.lemmas.Bool.{and_parts}
use Rattle.std.proofs.lemmas.Bool.Decides.{nat_tests}
use Rattle.std.proofs.lemmas.List.{length-append, length-map}
use Rattle.mx_base.specs.declared.numbers.IntKind.{IntKind}
use Rattle.obj_file.specs.declared.image.Image.{Image}
use Rattle.obj_file.specs.declared.object.Object.{Object}
use Rattle.obj_file.specs.Machine.{IsReader, Reading}
use Rattle.fat_ir.specs.declared.program.FatFun.{FatFun}
use Rattle.fat_ir.specs.declared.step.FatStep.{FatStep}
use Rattle.fat_ir.specs.declared.step.FatStep.TheVariants as s
use Rattle.fat_ir.specs.Functions.{Target, OfC, Outside, Linked as FatLinked, Parameter as FatParameter}
use Rattle.fat_ir.specs.Step.{Located}
use Rattle.bounds_plan.specs.steps.Code.{arrivals, arrived, code_of, fat_function, fat_parameters, is_pointer}
use Rattle.bounds_plan.specs.steps.Compiled.{FitsFunction, compiled}
use Rattle.bounds_plan.specs.meaning.Functions.{FunctionOfC, Linked, Parameter, Private, Framed}
use Rattle.step_code.specs.Functions.{Layout, IsWritten}
use Rattle.step_code.specs.Homes.{first_in, last_in}
use Rattle.step_code.specs.Homing.{width_of}
use Rattle.step_code.specs.Steps.{Plan}
use Rattle.reg_assign.specs.declared.homes.Homes.{Homes}
use Rattle.reg_assign.specs.Granted.{AreGranted}
use Rattle.reg_assign.specs.Homes.{AreHomes, IsNamed}
use Rattle.reg_assign.specs.Laws.{HasHomes}
use Rattle.asked_steps.specs.Alone.{AllLimited}
use Rattle.asked_steps.specs.Assigned.{HasSpare}
use Rattle.asked_steps.specs.Homes.{HomesServe}
use Rattle.asked_steps.specs.Wishes.{numbers_in, parameters_wish}
use Rattle.asked_steps.proofs.Limits.{function_limited}
use Rattle.valid_code.specs.Named.{CallsAreNear, HomesAreNamed, pointers_in, pointers_of}
use Rattle.call_gates.specs.Gates.{InCode}
use Rattle.call_sigs.specs.Signatures.{pointers}
use Rattle.legacy_calls.specs.Legacy.{Linkage}
use Rattle.program_laws.specs.Compiled.{AreClear, IsCompiled, kinds_of}
use Rattle.program_laws.specs.Functions.{are_arguments, entries_of, entry_of, is_there, returns_in, signature_of, takes_in}
use Rattle.obj_linker.specs.declared.parts.SymbolId.{SymbolId}
use Rattle.obj_linker.specs.Placement.{own_address, plan_of, spot_of}
use Rattle.obj_linker.specs.Symbols.{ids, sig_at, symbol_id}
use Rattle.obj_linker.proofs.Members.{by_recursion}
use Rattle.linked_code.specs.Filled.{seen_in, with_symbols}
use Rattle.linked_laws.specs.Linkage.{called_at, function_at, inner_of, linkage_of, stub_of}
use Rattle.linked_laws.specs.Linked.{AreLinked, bytes_in}
use Rattle.linked_laws.proofs.Answer.{passed, stub_room}
use Rattle.linked_laws.proofs.Gated.{got_keeps}
use Rattle.linked_laws.proofs.GateSizes.{told_registers}
use Rattle.linked_units.specs.Accesses.{accesses_of}
use Rattle.linked_units.specs.Objects.{layout_at}
use Rattle.linked_units.proofs.Written.{are_written}
use Rattle.linked_programs.specs.Programs.{IsOfUnit, located_in}

-- ---- pointers

pointers_same : (ps : List Parameter) → pointers_of (fat_parameters ps) ≡ pointers (kinds_of ps)
pointers_same [] = refl
pointers_same (Private x None ∷ ps) = (let rest = pointers_same ps in omega (arith, rest))
pointers_same (Private x (Some kind) ∷ ps) = (let rest = pointers_same ps in omega (arith, rest))
pointers_same (Framed offset None ∷ ps) = (let rest = pointers_same ps in omega (arith, rest))
pointers_same (Framed offset (Some kind) ∷ ps) = (let rest = pointers_same ps in omega (arith, rest))

arguments_point : (qs : List (Option IntKind)) (args : List (ℕ × Option ℕ)) → are_arguments qs args ≡ true → pointers_in args ≡ pointers qs
arguments_point [] [] e = refl
arguments_point [] (a ∷ rest) e = cc
arguments_point (q ∷ qs) [] e = cc
arguments_point (None ∷ qs) ((a, None) ∷ rest) e = cc
arguments_point (None ∷ qs) ((a, Some b) ∷ rest) e = (let more = arguments_point qs rest e in omega (arith, more))
arguments_point (Some kind ∷ qs) ((a, None) ∷ rest) e = arguments_point qs rest e
arguments_point (Some kind ∷ qs) ((a, Some b) ∷ rest) e = cc

-- as many numbers wish as there are parameters
wishes_many : (home temp : ℕ) (ps : List Parameter) → length (numbers_in home temp (fat_parameters ps)) ≡ length (kinds_of ps)
wishes_many home temp [] = refl
wishes_many home temp (Private x kind ∷ ps) = ap suc (wishes_many (home + width_of (is_pointer kind)) temp ps)
wishes_many home temp (Framed offset kind ∷ ps) = ap suc (wishes_many home (temp + width_of (is_pointer kind)) ps)

module _ (reads : List ℕ → Reading) (reader : IsReader reads) (preserve : Bool) (os : List Object) (v : Image) (linked : AreLinked os v) where
  abbrev linkage : Linkage
  linkage = linkage_of reads preserve os

  -- ---- what is called

  inner_near : (g : ℕ) → g < length (plan_of os).functions → InCode (inner_of os g)
  inner_near g low =
      let long = length-map (plan_of os).functions (λ (e : List ℕ × SymbolId). e.1) in
      got_keeps (λ id. InCode (own_address os (plan_of os) id)) (ids (plan_of os).functions) g (symbol_id 0 0)
      (by_recursion (λ id. InCode (own_address os (plan_of os) id)) (ids (plan_of os).functions) (passed os v linked).reach.inner) (omega (arith, long, low))

  target_near : (t : Target) → is_there linkage t ≡ true → entry_of (inner_of os) (stub_of os) t < 2 ^ 31
  target_near (OfC g) there =
      let few : g < length (plan_of os).functions = grind (arith, nat_tests, there) in
      let high = (inner_near g few).1 in
      omega (arith, high)
  target_near (Outside g) there =
      let few : g < length (plan_of os).stubs = grind (arith, nat_tests, there) in
      let high = (stub_room os v linked g few).1 in
      omega (arith, high)

  target_points : (t : Target) → pointers (signature_of linkage t).parameters ≤ 4
  target_points (OfC g) = (told_registers (sig_at os (function_at os g))).pointed
  target_points (Outside g) = (told_registers (sig_at os (called_at os g))).pointed

  module _ (located : ℕ → Located) (pointer : Bool) (l : FatLinked) where
    calls_near : (steps : List FatStep) → AllLimited located pointer (returns_in linkage l) (takes_in linkage l) steps → CallsAreNear (entries_of (inner_of os) (stub_of os) l) steps
    calls_near [] limited = tt
    calls_near (s.Call symbol args to bounds ∷ steps) limited =
        let parts = and_parts (is_there linkage (l.targets symbol)) (are_arguments (signature_of linkage (l.targets symbol)).parameters args) limited.0.2 in
        let same = arguments_point (signature_of linkage (l.targets symbol)).parameters args parts.1 in
        let few = target_points (l.targets symbol) in
        ((target_near (l.targets symbol) parts.0, omega (arith, same, few)), calls_near steps limited.1)
    calls_near (step ∷ steps) limited = (tt, calls_near steps limited.1)

  -- ---- a function

  abbrev Serves : Type 0
  Serves = (f : FatFun) (h : Homes) (p : Plan) → HasSpare f h p → (are : AreHomes f h) → 1 ≤ length f.steps → length f.steps < 0xffff_ffff_ffff_ffff → HomesServe f (h.words + 4) p are.span

  abbrev Clears : Type 0
  Clears = (count : ℕ → ℕ) (g : FunctionOfC) → FitsFunction count g → (name : ℕ) (h : Homes) (units : ℕ) (p : Plan) → HasHomes (fat_function name g) h units p → AreHomes (fat_function name g) h
      → length (parameters_wish g).numbers ≤ 6 → AreGranted (parameters_wish g) h → (first : ℕ → ℕ) → AreClear p first 0 (length g.privates) 0 0 g.parameters

  module _ (serves : Serves) (clears : Clears) (number count : ℕ → ℕ) (name : ℕ) (l : Linked) (fits : FitsFunction count l.fun) (f : ℕ) (few : f < length (plan_of os).functions) (is : IsOfUnit linkage os number name l f) where
    abbrev others : ℕ → ℕ
    others = seen_in os (plan_of os) is.object false

    abbrev plan : Plan
    plan = with_symbols is.c.plan is.is_function others

    abbrev first : ℕ → ℕ
    first x = first_in (is.coded.are.span x)

    abbrev last : ℕ → ℕ
    last x = last_in (is.coded.are.span x)

    abbrev laid : Layout
    laid = layout_at is.is_function (spot_of (plan_of os) is.object).code others first last is.at is.c

    abbrev entries : ℕ → ℕ
    entries = entries_of (inner_of os) (stub_of os) (compiled name l)

    spare : HasSpare is.c.fun is.coded.homes plan
    spare = record {
      has = record { room = is.coded.spare.has.room; home = is.coded.spare.has.home; is_bounds = is.coded.spare.has.is_bounds };
      spare = is.coded.spare.spare;
    }

    named : HomesAreNamed is.c.plan
    named = record {
      homes = λ x. subst IsNamed (sym (is.coded.spare.has.home x)) (is.coded.are.named x);
      spare = (let most = is.coded.are.few in let at = is.coded.spare.spare in omega (arith, most, at));
    }

    limited : AllLimited (located_in os is.object is.is_function) is.c.plan.pointer (returns_in linkage (compiled name l)) (takes_in linkage (compiled name l)) is.c.fun.steps
    limited = subst (λ (g : FatFun). AllLimited (located_in os is.object is.is_function) is.c.plan.pointer (returns_in linkage (compiled name l)) (takes_in linkage (compiled name l)) g.steps) (sym is.coded.fun)
        (function_limited (located_in os is.object is.is_function) is.c.plan.pointer (returns_in linkage (compiled name l)) (takes_in linkage (compiled name l)) l.fun is.bound.within name)

    few_pointers : pointers_of is.c.parameters ≤ 4
    few_pointers =
        let same = pointers_same l.fun.parameters in
        let told = ap pointers is.bound.signature in
        let most = target_points (OfC f) in
        let own = ap pointers_of is.coded.parameters in
        omega (arith, same, told, most, own)

    written : IsWritten (fat_function name l.fun) (fat_parameters l.fun.parameters) laid (bytes_in v) (accesses_of number v) entries (inner_of os f)
    written =
        let at_code = are_written os v linked is.object is.in_unit.o is.in_unit.there is.is_function is.in_unit.unit is.in_unit.is_unit is.at is.c is.in_unit.stands is.coded.labels named few_pointers
        number is.files entries is.bound.calls (calls_near (located_in os is.object is.is_function) is.c.plan.pointer (compiled name l) is.c.fun.steps limited)
        (returns_in linkage (compiled name l)) (takes_in linkage (compiled name l)) limited first last in
        let by_function = subst (λ (g : FatFun). IsWritten g is.c.parameters laid (bytes_in v) (accesses_of number v) entries ((spot_of (plan_of os) is.object).code + is.at)) is.coded.fun at_code in
        let by_parameters = subst (λ (ps : List FatParameter). IsWritten (fat_function name l.fun) ps laid (bytes_in v) (accesses_of number v) entries ((spot_of (plan_of os) is.object).code + is.at)) is.coded.parameters by_function in
        subst (λ (n : ℕ). IsWritten (fat_function name l.fun) (fat_parameters l.fun.parameters) laid (bytes_in v) (accesses_of number v) entries n) is.bound.stands by_parameters

    arguments : AreClear plan first 0 (length l.fun.privates) 0 0 l.fun.parameters
    arguments =
        let has = subst (λ (g : FatFun). HasHomes g is.coded.homes (is.coded.homes.words + 4) plan) is.coded.fun spare.has in
        let are = subst (λ (g : FatFun). AreHomes g is.coded.homes) is.coded.fun is.coded.are in
        let many = wishes_many 0 (length l.fun.privates) l.fun.parameters in
        let told = ap length is.bound.signature in
        let most = (told_registers (sig_at os (function_at os f))).few in
        clears count l.fun fits name is.coded.homes (is.coded.homes.words + 4) plan has are (omega (arith, many, told, most)) is.coded.granted first

    some_steps : 1 ≤ length is.c.fun.steps
    some_steps =
        let base = length l.fun.privates + length (arrived l.fun.parameters) in
        let body = code_of l.fun.body base 1 0 0 in
        let one = length-append (arrivals l.fun.parameters (length l.fun.privates) base) (body ++ s.Label 0 ∷ []) in
        let two = length-append body (s.Label 0 ∷ []) in
        let same = ap (λ (g : FatFun). length g.steps) is.coded.fun in
        omega (arith, one, two, same)

    serve : HomesServe (fat_function name l.fun) is.c.units plan is.coded.are.span
    serve =
        let own = serves is.c.fun is.coded.homes plan spare is.coded.are some_steps is.coded.short in
        let by_function = subst (λ (g : FatFun). HomesServe g (is.coded.homes.words + 4) plan is.coded.are.span) is.coded.fun own in
        subst (λ (n : ℕ). HomesServe (fat_function name l.fun) n plan is.coded.are.span) (sym is.coded.units) by_function

    pub is_compiled : IsCompiled linkage (bytes_in v) (accesses_of number v) (inner_of os) (stub_of os) name l f
    is_compiled = record {
      homes = record { plan = plan; units = is.c.units; range = is.coded.are.span; label_at = laid.label_at };
      written = written;
      serve = serve;
      few_words = (let most = is.coded.are.few in let units = is.coded.units in omega (arith, most, units));
      few_bytes = is.coded.few_bytes;
      arguments = arguments;
      pointer = is.bound.pointer;
      located = is.bound.located;
      within = is.bound.within;
    }
