-- Where the fix-ups of objects lead.
use Rattle.std.proofs.Common.{◌≡◌, refl, sym, ap, ◌∙◌, subst, ℕ, zero, suc, ◌+◌, not, ◌&&◌, Bool, true, false, cond, if◌then◌else◌, None, Some, List, [], ◌∷◌, ◌++◌, slice_get, arith, add-zero}
use Rattle.std.specs.List.{flat_map}
use Rattle.std.specs.Option.{unwrap_or}
use Rattle.std.specs.Str.{bytes_eq}
use Rattle.std.proofs.lemmas.Bool.{and_parts}
use Rattle.std.proofs.lemmas.Slice.Eq.{bytes_eq-Decides}
use Rattle.obj_file.specs.declared.object.Object.{Object}
use Rattle.obj_file.specs.declared.object.Fix.{Fix}
use Rattle.obj_linker.specs.declared.parts.SymbolId.{SymbolId}
use Rattle.obj_linker.specs.Symbols.{numbered, symbols, symbol_id, name_at, is_import, is_code, is_legacy_at, is_c_function, is_legacy_function, find, place_of, definitions}
use Rattle.obj_linker.specs.Placement.{is_call, leads_to_legacy, stub_call, stub_calls_of, stub_calls, plan_of, own_address, outer_at, stub_at}
use Rattle.obj_linker.specs.Fixing.{seen_address, meant_by, target}
use Rattle.linked_laws.specs.Calls.{LeadsToFunction, LeadsToOuter, LeadsToStub, name_of}
use Rattle.linked_laws.specs.Linkage.{called_at, function_at}
use Rattle.linked_laws.proofs.Main.{IsThere, find_first, first_named, found_too, there}
use Rattle.linked_laws.proofs.Loaded.{defined}

-- ---- a first symbol of a name

record HasFirst (os : List Object) (name : List ℕ) (xs : List SymbolId) : Type 0 where
  id : SymbolId
  is : first_named os name xs ≡ Some id
  named : bytes_eq name (name_at os id) ≡ true

module _ (os : List Object) (name : List ℕ) where
  first_or_later : (x : SymbolId) (xs : List SymbolId) → HasFirst os name xs → HasFirst os name (x ∷ xs)
  first_or_later x xs h = by (bytes_eq name (name_at os x)) refl
    where
      by : (b : Bool) → bytes_eq name (name_at os x) ≡ b → HasFirst os name (x ∷ xs)
      by true e = record { id = x; is = ap (λ b. cond b (Some x) (first_named os name xs)) e; named = e }
      by false e = record { id = h.id; is = ap (λ b. cond b (Some x) (first_named os name xs)) e ∙ h.is; named = h.named }

  has_behind : (xs ys : List SymbolId) → HasFirst os name ys → HasFirst os name (xs ++ ys)
  has_behind [] ys h = h
  has_behind (x ∷ xs) ys h = first_or_later x (xs ++ ys) (has_behind xs ys h)

  has_before : (xs ys : List SymbolId) → HasFirst os name xs → HasFirst os name (xs ++ ys)
  has_before [] ys h = (let no : None ≡ Some h.id = h.is in cc)
  has_before (x ∷ xs) ys h = by (bytes_eq name (name_at os x)) refl h.is (has_before xs ys)
    where
      by : (b : Bool) → bytes_eq name (name_at os x) ≡ b → cond b (Some x) (first_named os name xs) ≡ Some h.id → (HasFirst os name xs → HasFirst os name (xs ++ ys)) → HasFirst os name (x ∷ xs ++ ys)
      by true e is more = record { id = x; is = ap (λ b. cond b (Some x) (first_named os name (xs ++ ys))) e; named = e }
      by false e is more = first_or_later x (xs ++ ys) (more (record { id = h.id; is = is; named = h.named }))

  has_in_map : {X : Type 0} (g : X → List SymbolId) (xs : List X) (i : ℕ) (x : X) → slice_get xs i ≡ Some x → HasFirst os name (g x) → HasFirst os name (flat_map g xs)
  has_in_map g [] i x h own = cc
  has_in_map g (y ∷ xs) zero x h own =
      let same : y ≡ x = cc in
      has_before (g y) (flat_map g xs) (subst (λ z. HasFirst os name (g z)) (sym same) own)
  has_in_map g (y ∷ xs) (suc i) x h own = has_behind (g y) (flat_map g xs) (has_in_map g xs i x h own)

  has_in_numbered : {X : Type 0} (g : ℕ → X → List SymbolId) (n : ℕ) (xs : List X) (k : ℕ) (x : X) → slice_get xs k ≡ Some x → HasFirst os name (g (n + k) x) → HasFirst os name (numbered g n xs)
  has_in_numbered g n [] k x h own = cc
  has_in_numbered g n (y ∷ xs) zero x h own =
      let same : y ≡ x = cc in
      has_before (g n y) (numbered g (n + 1) xs) (subst (λ z. HasFirst os name (g n z)) (sym same) (subst (λ m. HasFirst os name (g m x)) (add-zero n) own))
  has_in_numbered g n (y ∷ xs) (suc k) x h own =
      has_behind (g n y) (numbered g (n + 1) xs)
      (has_in_numbered g (n + 1) xs k x h (subst (λ m. HasFirst os name (g m x)) (let e : n + suc k ≡ n + 1 + k = omega arith in e) own))

-- ---- fix-ups

module _ (os : List Object) (k : ℕ) (o : Object) (f : Fix) (d : SymbolId) (found : find (name_of os k f) (definitions os) ≡ Some d) where
  seen : (call : Bool) → is_call o f ≡ call → target os (plan_of os) k o f ≡ seen_address os (plan_of os) call (name_of os k f) d
  seen call is = (λ i. seen_address os (plan_of os) (is i) (name_of os k f) (unwrap_or (found i) (symbol_id k f.symbol)))

  function_there : is_c_function os d ≡ true → IsThere (name_of os k f) (plan_of os).functions d (place_of (name_of os k f) (plan_of os).functions)
  function_there own =
      there (name_of os k f) (plan_of os).functions d
      (found_too os (name_of os k f) (λ id. not (is_import os id)) (is_c_function os) (defined os) (symbols os) d own found)

  pub leads_to_function : is_call o f ≡ true → is_c_function os d ≡ true → LeadsToFunction os k o f d (place_of (name_of os k f) (plan_of os).functions)
  leads_to_function call own =
      let at = function_there own in
      let same : function_at os (place_of (name_of os k f) (plan_of os).functions) ≡ d = ap (λ x. unwrap_or x (symbol_id 0 0)) at.got in
      record {
        few = at.few;
        is = same;
        leads = seen true call
            ∙ (ap (λ b. if b then own_address os (plan_of os) d else if is_legacy_function os d then stub_at (plan_of os) (place_of (name_of os k f) (plan_of os).stubs) else own_address os (plan_of os) d) own
            ∙ ap (own_address os (plan_of os)) (sym same));
      }

  pub leads_to_outer : is_call o f ≡ false → is_c_function os d ≡ true → LeadsToOuter os k o f d (place_of (name_of os k f) (plan_of os).functions)
  leads_to_outer call own =
      let at = function_there own in
      record {
        few = at.few;
        is = ap (λ x. unwrap_or x (symbol_id 0 0)) at.got;
        leads = seen false call ∙ ap (λ b. if b then outer_at (place_of (name_of os k f) (plan_of os).functions) else own_address os (plan_of os) d) own;
      }

  not_own : is_legacy_function os d ≡ true → is_c_function os d ≡ false
  not_own legacy = ap (λ b. not b && is_code os d) (and_parts (is_legacy_at os d) (is_code os d) legacy).0

  stub_for : is_call o f ≡ true → is_legacy_function os d ≡ true → HasFirst os (name_of os k f) (stub_call os (definitions os) k o f)
  stub_for call legacy =
      let yes : (is_call o f && leads_to_legacy os (find (name_of os k f) (definitions os))) ≡ true =
      (λ i. call i && leads_to_legacy os (found i)) ∙ legacy in
      let self : bytes_eq (name_of os k f) (name_of os k f) ≡ true = (bytes_eq-Decides (name_of os k f) (name_of os k f)).1 refl in
      subst (λ b. HasFirst os (name_of os k f) (if b then symbol_id k f.symbol ∷ [] else [])) (sym yes)
      (record { id = symbol_id k f.symbol; is = ap (λ b. cond b (Some (symbol_id k f.symbol)) None) self; named = self })

  pub leads_to_stub : slice_get os k ≡ Some o → (i : ℕ) → slice_get o.fixes i ≡ Some f → is_call o f ≡ true → is_legacy_function os d ≡ true
      → LeadsToStub os k o f d (place_of (name_of os k f) (plan_of os).stubs)
  leads_to_stub object i fix call legacy =
      let name = name_of os k f in
      let of_object : HasFirst os name (stub_calls_of os (definitions os) k o) = has_in_map os name (stub_call os (definitions os) k o) o.fixes i f fix (stub_for call legacy) in
      let first : HasFirst os name (stub_calls os (definitions os)) =
      has_in_numbered os name (stub_calls_of os (definitions os)) 0 os k o object (subst (λ m. HasFirst os name (stub_calls_of os (definitions os) m o)) (let e : k ≡ 0 + k = omega arith in e) of_object) in
      let at = there name (plan_of os).stubs first.id (find_first os name (stub_calls os (definitions os)) ∙ first.is) in
      let same : called_at os (place_of name (plan_of os).stubs) ≡ first.id = ap (λ x. unwrap_or x (symbol_id 0 0)) at.got in
      let named : name ≡ name_at os first.id = (bytes_eq-Decides name (name_at os first.id)).0 first.named in
      record {
        few = at.few;
        is = ap (meant_by os (plan_of os)) same ∙ ((λ i. unwrap_or (find (sym named i) (definitions os)) first.id) ∙ ap (λ x. unwrap_or x first.id) found);
        leads = seen true call
            ∙ (ap (λ b. if b then own_address os (plan_of os) d else if is_legacy_function os d then stub_at (plan_of os) (place_of name (plan_of os).stubs) else own_address os (plan_of os) d) (not_own legacy)
            ∙ ap (λ b. if b then stub_at (plan_of os) (place_of name (plan_of os).stubs) else own_address os (plan_of os) d) legacy);
      }
