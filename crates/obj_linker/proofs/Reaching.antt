-- What an image without faults of sizes keeps: addresses within their regions, and gates that know them.
use Rattle.std.proofs.Common.{◌≡◌, refl, sym, ap, ◌∙◌, subst, ℕ, zero, suc, ◌+◌, ◌-◌, ◌*◌, ◌^◌, ◌<◌, ◌≤◌, nat_lt, ◌==◌, not, ◌&&◌, Bool, true, false, true≢false, if◌then◌else◌, Option, None, Some, List, [], ◌∷◌, ◌++◌, length, get_or, slice_get, count_by, eqb-true, arith}
use Rattle.std.specs.List.{All, filter}
use Rattle.std.specs.Option.{unwrap_or, option_map_or}
use Rattle.std.specs.Str.{bytes_eq}
use Rattle.std.proofs.lemmas.Bool.{ltb-false}
use Rattle.call_gates.specs.Gates.{InCode, InLegacyCode}
use Rattle.obj_file.specs.declared.object.Object.{Object}
use Rattle.obj_file.specs.declared.object.Symbol.{Symbol}
use Rattle.obj_file.specs.declared.parts.Parts.{Parts}
use Rattle.obj_file.specs.InTurn.{InTurn}
use Rattle.obj_file.specs.Object.{IsObject, IsSymbol, after_symbol, part_len, parts_of as lengths_of}
use Rattle.obj_linker.specs.declared.fault.LinkFault.{LinkFault}
use Rattle.obj_linker.specs.declared.fault.LinkFault.TheVariants.{ManyFunctions, CodeLarge, LegacyLarge, GlobalsLarge, ImageLarge, NoMain}
use Rattle.obj_linker.specs.declared.parts.SymbolId.{SymbolId}
use Rattle.obj_linker.specs.declared.parts.Ends.{Ends}
use Rattle.obj_linker.specs.declared.plan.Plan.{Plan}
use Rattle.obj_linker.specs.Symbols.{symbols, symbol_at, no_symbol, is_legacy_at, is_code, is_c_function, is_legacy_function, name_at, sig_at, find, ids, definitions}
use Rattle.obj_linker.specs.Placement.{starts, ends_of, code_end, plan_of, stub_at, own_address, spot_of, no_spot, leads_to_legacy, aligned}
use Rattle.obj_linker.specs.Fixing.{meant_by}
use Rattle.obj_linker.specs.Image.{main_name, main_id, has_file}
use Rattle.obj_linker.specs.Faults.{over, too_large, no_main, is_main, main_sig, count_of_segments, count_of_places}
use Rattle.obj_linker.specs.Limits.{IsLow}
use Rattle.obj_linker.specs.Gating.{GatesReach}
use Rattle.obj_linker.proofs.Passing.{none_before, none_behind}
use Rattle.obj_linker.proofs.Standing.{stands, spots_low, aligned_gate, end_of, code_grows}
use Rattle.obj_linker.proofs.Members.{each, named_all, all_filtered, stubs_lead, LeadsToLegacy, got, few_functions, few_stubs}

-- ---- sizes

within_over : (limit n : ℕ) (fault : ℕ → LinkFault) → over limit n fault ≡ [] → n ≤ limit
within_over limit n fault h = ltb-false limit n (by (nat_lt limit n) h)
  where
    by : (b : Bool) → (if b then fault n ∷ [] else []) ≡ [] → b ≡ false
    by true e = cc
    by false e = refl

pub record Sizes (os : List Object) (plan : Plan) (ends : Ends) : Type 0 where
  pub functions : length plan.functions ≤ 65_536
  pub code : code_end (length plan.stubs) ends.code plan.stubs_at - 0x0200_0000 ≤ 251_658_240
  pub legacy : ends.legacy - 0x1200_0000 ≤ 16_777_216
  pub stored : ends.stored - 0x2000_0000 ≤ 16_777_216
  pub segments : count_of_segments os plan ≤ 262_144
  pub files : count_by has_file os ≤ 65_536
  pub places : count_of_places os ≤ 1_048_576

pub sizes : (os : List Object) (plan : Plan) (ends : Ends) → too_large os plan ends ≡ [] → Sizes os plan ends
sizes os plan ends h =
    let a : List LinkFault = over 65_536 (length plan.functions) ManyFunctions in
    let b : List LinkFault = over 251_658_240 (code_end (length plan.stubs) ends.code plan.stubs_at - starts.code) CodeLarge in
    let c : List LinkFault = over 16_777_216 (ends.legacy - starts.legacy) LegacyLarge in
    let d : List LinkFault = over 16_777_216 (ends.stored - starts.stored) GlobalsLarge in
    let e : List LinkFault = over 262_144 (count_of_segments os plan) ImageLarge in
    let f : List LinkFault = over 65_536 (count_by has_file os) ImageLarge in
    let g : List LinkFault = over 1_048_576 (count_of_places os) ImageLarge in
    let six : a ++ b ++ c ++ d ++ e ++ f ≡ [] = none_before (a ++ b ++ c ++ d ++ e ++ f) g h in
    let five : a ++ b ++ c ++ d ++ e ≡ [] = none_before (a ++ b ++ c ++ d ++ e) f six in
    let four : a ++ b ++ c ++ d ≡ [] = none_before (a ++ b ++ c ++ d) e five in
    let three : a ++ b ++ c ≡ [] = none_before (a ++ b ++ c) d four in
    let two : a ++ b ≡ [] = none_before (a ++ b) c three in
    record {
      functions = within_over 65_536 (length plan.functions) ManyFunctions (none_before a b two);
      code = within_over 251_658_240 (code_end (length plan.stubs) ends.code plan.stubs_at - starts.code) CodeLarge (none_behind a b two);
      legacy = within_over 16_777_216 (ends.legacy - starts.legacy) LegacyLarge (none_behind (a ++ b) c three);
      stored = within_over 16_777_216 (ends.stored - starts.stored) GlobalsLarge (none_behind (a ++ b ++ c) d four);
      segments = within_over 262_144 (count_of_segments os plan) ImageLarge (none_behind (a ++ b ++ c ++ d) e five);
      files = within_over 65_536 (count_by has_file os) ImageLarge (none_behind (a ++ b ++ c ++ d ++ e) f six);
      places = within_over 1_048_576 (count_of_places os) ImageLarge (none_behind (a ++ b ++ c ++ d ++ e ++ f) g h);
    }

pub sizes_of : (os : List Object) (plan : Plan) (ends : Ends) → plan ≡ plan_of os → ends ≡ ends_of os → too_large os plan ends ≡ [] → Sizes os (plan_of os) (ends_of os)
sizes_of os plan ends p e h = sizes os (plan_of os) (ends_of os) ((λ i. too_large os (sym p i) (sym e i)) ∙ h)

-- ---- the end of instrumented code with its stubs

pub record CodeEnds (stubs ends first : ℕ) : Type 0 where
  pub end : ends ≤ 0x1100_0000
  pub low : first < 2 ^ 32
  pub few : stubs < 2 ^ 22
  pub behind : ends ≤ first
  pub last : (number : ℕ) → number < stubs → first + 128 * number ≤ 0x1100_0000

ends_at : (stubs ends first : ℕ) (none : Bool) → (stubs == 0) ≡ none → ends ≤ first → first ≤ ends + 127 → (if none then ends else first + 128 * stubs) - 0x0200_0000 ≤ 251_658_240
    → CodeEnds stubs ends first
ends_at stubs ends first true is from to h =
    let zero : stubs ≡ 0 = eqb-true stubs 0 is in
    record {
      end = omega arith;
      low = omega arith;
      few = omega arith;
      behind = from;
      last = λ number less. absurd (omega (arith, zero, less));
    }
ends_at stubs ends first false is from to h =
    record {
      end = omega arith;
      low = omega arith;
      few = omega arith;
      behind = from;
      last = λ number less. omega (arith, less, h);
    }

code_ends : (stubs ends : ℕ) → code_end stubs ends (aligned 128 ends) - 0x0200_0000 ≤ 251_658_240 → CodeEnds stubs ends (aligned 128 ends)
code_ends stubs ends h = (let a = aligned_gate ends in ends_at stubs ends (aligned 128 ends) (stubs == 0) refl a.0 a.1 h)

pub plan_low : (os : List Object) → Sizes os (plan_of os) (ends_of os) → IsLow (plan_of os)
plan_low os s =
    let c = code_ends (length (plan_of os).stubs) (ends_of os).code s.code in
    let code = c.end in
    let legacy = s.legacy in
    let stored = s.stored in
    record {
      spots = spots_low os starts (let low : (ends_of os).code < 2 ^ 32 = omega arith in low) (let low : (ends_of os).legacy < 2 ^ 32 = omega arith in low) (let low : (ends_of os).stored < 2 ^ 32 = omega arith in low);
      functions = s.functions;
      stubs = c.few;
      stubs_at = c.low;
    }

-- ---- definitions in their parts

record Found (os : List Object) (id : SymbolId) (legacy : Bool) : Type 0 where
  object : Object
  at : slice_get os id.object ≡ Some object
  kind : object.legacy ≡ legacy
  symbol : Symbol
  named : slice_get object.symbols id.symbol ≡ Some symbol
  part : (symbol.part == 1) ≡ true
  is : symbol_at os id ≡ symbol

found : (os : List Object) (id : SymbolId) (legacy : Bool) → is_legacy_at os id ≡ legacy → is_code os id ≡ true → Found os id legacy
found os id legacy l c = by (slice_get os id.object) refl l c
  where
    inner : (o : Object) → slice_get os id.object ≡ Some o → o.legacy ≡ legacy → (y : Option Symbol) → slice_get o.symbols id.symbol ≡ y
        → ((unwrap_or y no_symbol).part == 1) ≡ true → Found os id legacy
    inner o e l None f c = absurd (true≢false (sym c))
    inner o e l (Some s) f c = record {
      object = o;
      at = e;
      kind = l;
      symbol = s;
      named = f;
      part = c;
      is = ap (λ x. unwrap_or (slice_get (option_map_or (λ (o : Object). o.symbols) x []) id.symbol) no_symbol) e ∙ ap (λ y. unwrap_or y no_symbol) f;
    }

    by : (x : Option Object) → slice_get os id.object ≡ x → option_map_or (λ (o : Object). o.legacy) x false ≡ legacy
        → ((unwrap_or (slice_get (option_map_or (λ (o : Object). o.symbols) x []) id.symbol) no_symbol).part == 1) ≡ true → Found os id legacy
    by None e l c = absurd (true≢false (sym c))
    by (Some o) e l c = inner o e l (slice_get o.symbols id.symbol) refl c

symbol_within : (parts : Parts) (seen xs : List Symbol) (k : ℕ) (s : Symbol) → InTurn (IsSymbol parts) after_symbol seen xs → slice_get xs k ≡ Some s → s.offset ≤ part_len parts s.part
symbol_within parts seen [] k s all h = cc
symbol_within parts seen (x ∷ xs) zero s all h = (let same : x ≡ s = cc in subst (λ (y : Symbol). y.offset ≤ part_len parts y.part) same all.0.offset)
symbol_within parts seen (x ∷ xs) (suc k) s all h = symbol_within parts (after_symbol seen x) xs k s all.1 h

code_within : (o : Object) (s : Symbol) → (s.part == 1) ≡ true → s.offset ≤ part_len (lengths_of o) s.part → s.offset ≤ length o.code
unfolding part_len
code_within o s own h = subst (λ b. s.offset ≤ (if b then length o.code else if s.part == 2 then length o.stored else 0)) own h

object_at : (os : List Object) → All IsObject os → (k : ℕ) (o : Object) → slice_get os k ≡ Some o → IsObject o
object_at os all k o h = (let g = got os k o h in subst IsObject (g.is o) (all k o g.less))

-- where a definition in code stands
record InPart (os : List Object) (legacy : Bool) (a : ℕ) : Type 0 where
  from : end_of legacy starts ≤ a
  to : a ≤ end_of legacy (ends_of os)

in_part : (os : List Object) → All IsObject os → (id : SymbolId) (legacy : Bool) → is_legacy_at os id ≡ legacy → is_code os id ≡ true → InPart os legacy (own_address os (plan_of os) id)
in_part os all id legacy l c =
    let f = found os id legacy l c in
    let s = stands os starts id.object f.object f.at in
    let own = object_at os all id.object f.object f.at in
    let within = code_within f.object f.symbol f.part (symbol_within (lengths_of f.object) [] f.object.symbols id.symbol f.symbol own.symbols f.named) in
    let shown : own_address os (plan_of os) id ≡ s.spot.code + f.symbol.offset =
    ap (λ b. (if b then (spot_of (plan_of os) id.object).code else (spot_of (plan_of os) id.object).stored) + (symbol_at os id).offset) c
    ∙ (λ i. (unwrap_or (s.is i) no_spot).code + (f.is i).offset) in
    let from : end_of legacy starts ≤ s.spot.code = subst (λ b. end_of b starts ≤ s.spot.code) f.kind s.from in
    let to : s.spot.code + length f.object.code ≤ end_of legacy (ends_of os) = subst (λ b. s.spot.code + length f.object.code ≤ end_of b (ends_of os)) f.kind s.to in
    let low = above (end_of legacy starts) s.spot.code f.symbol.offset from in
    let high = below s.spot.code f.symbol.offset (length f.object.code) (end_of legacy (ends_of os)) to within in
    record { from = subst (λ a. end_of legacy starts ≤ a) (sym shown) low; to = subst (λ a. a ≤ end_of legacy (ends_of os)) (sym shown) high }
  where
    above : (low code offset : ℕ) → low ≤ code → low ≤ code + offset
    above low code offset p = omega arith

    below : (code offset len high : ℕ) → code + len ≤ high → offset ≤ len → code + offset ≤ high
    below code offset len high q r = omega arith

-- ---- kinds

both : (a b : Bool) → (a && b) ≡ true → (a ≡ true) × (b ≡ true)
both true b h = (refl, h)
both false b h = absurd (true≢false (sym h))

turned : (b : Bool) → not b ≡ true → b ≡ false
turned true h = absurd (true≢false (sym h))
turned false h = refl

c_function_in_code : (os : List Object) → All IsObject os → Sizes os (plan_of os) (ends_of os) → (id : SymbolId) → is_c_function os id ≡ true → InCode (own_address os (plan_of os) id)
c_function_in_code os all s id h =
    let two = both (not (is_legacy_at os id)) (is_code os id) h in
    let p = in_part os all id false (turned (is_legacy_at os id) two.0) two.1 in
    let c = code_ends (length (plan_of os).stubs) (ends_of os).code s.code in
    let from = p.from in
    let to = p.to in
    let end = c.end in
    (omega arith, omega arith)

legacy_function_in_code : (os : List Object) → All IsObject os → Sizes os (plan_of os) (ends_of os) → (id : SymbolId) → is_legacy_function os id ≡ true → InLegacyCode (own_address os (plan_of os) id)
legacy_function_in_code os all s id h =
    let two = both (is_legacy_at os id) (is_code os id) h in
    let p = in_part os all id true two.0 two.1 in
    let from = p.from in
    let to = p.to in
    let end = s.legacy in
    (omega arith, omega arith)

-- ---- gates

main_in_code : (os : List Object) → All IsObject os → Sizes os (plan_of os) (ends_of os) → no_main os (definitions os) ≡ [] → InCode (own_address os (plan_of os) (main_id (definitions os)))
main_in_code os all s none = by (find main_name (definitions os)) refl none
  where
    inner : (id : SymbolId) (b : Bool) → (is_c_function os id && bytes_eq (sig_at os id) main_sig) ≡ b → (if b then [] else NoMain ∷ []) ≡ [] → is_c_function os id ≡ true
    inner id true e h = (both (is_c_function os id) (bytes_eq (sig_at os id) main_sig) e).0
    inner id false e h = cc

    by : (x : Option SymbolId) → find main_name (definitions os) ≡ x → (if is_main os x then [] else NoMain ∷ []) ≡ [] → InCode (own_address os (plan_of os) (unwrap_or (find main_name (definitions os)) (record { object = 0; symbol = 0 })))
    by None e h = cc
    by (Some id) e h =
        subst (λ x. InCode (own_address os (plan_of os) (unwrap_or x (record { object = 0; symbol = 0 })))) (sym e)
        (c_function_in_code os all s id (inner id (is_c_function os id && bytes_eq (sig_at os id) main_sig) refl h))

target_in_code : (os : List Object) → All IsObject os → Sizes os (plan_of os) (ends_of os) → (id : SymbolId) → LeadsToLegacy os (definitions os) id → InLegacyCode (own_address os (plan_of os) (meant_by os (plan_of os) id))
target_in_code os all s id h = by (find (name_at os id) (definitions os)) refl h
  where
    by : (x : Option SymbolId) → find (name_at os id) (definitions os) ≡ x → leads_to_legacy os x ≡ true → InLegacyCode (own_address os (plan_of os) (unwrap_or (find (name_at os id) (definitions os)) id))
    by None e h = absurd (true≢false (sym h))
    by (Some d) e h = subst (λ x. InLegacyCode (own_address os (plan_of os) (unwrap_or x id))) (sym e) (legacy_function_in_code os all s d h)

stub_in_code : (os : List Object) → Sizes os (plan_of os) (ends_of os) → (number : ℕ) → number < length (plan_of os).stubs → InCode (stub_at (plan_of os) number)
stub_in_code os s number h =
    let c = code_ends (length (plan_of os).stubs) (ends_of os).code s.code in
    let last = c.last number h in
    let behind = c.behind in
    let up = code_grows os in
    (omega arith, last)

pub gates_reach : (os : List Object) → All IsObject os → Sizes os (plan_of os) (ends_of os) → no_main os (definitions os) ≡ [] → GatesReach os (plan_of os)
gates_reach os all s none = record {
  main = main_in_code os all s none;
  inner = λ k d h. c_function_in_code os all s (get_or (ids (plan_of os).functions) k d)
      (each (λ id. is_c_function os id ≡ true) (ids (plan_of os).functions) (named_all (λ id. is_c_function os id ≡ true) os (filter (is_c_function os) (symbols os)) (all_filtered (is_c_function os) (symbols os))) k d h);
  target = λ k d h. target_in_code os all s (get_or (ids (plan_of os).stubs) k d)
      (each (LeadsToLegacy os (definitions os)) (ids (plan_of os).stubs) (stubs_lead os (definitions os)) k d h);
  stubs = stub_in_code os s;
}

-- ---- numbers of names

pub functions_few : (os : List Object) → All IsObject os → length os < 2 ^ 32 → length (plan_of os).functions < 2 ^ 53
functions_few os all h = (let few = few_functions os (λ k d less. (all k d less).few_symbols) in omega arith)

pub stubs_few : (os : List Object) → All IsObject os → length os < 2 ^ 32 → length (plan_of os).stubs < 2 ^ 53
stubs_few os all h = (let few = few_stubs os (definitions os) (λ k d less. (let own = all k d less in let fixes = own.few_fixes in omega arith)) in omega arith)
