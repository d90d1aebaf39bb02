-- The values in which parameters arrive: their sorts, and that each is one argument's alone.
use Rattle.std.proofs.Common.{◌≡◌, ℕ, zero, suc, ◌+◌, ◌<◌, ◌≤◌, ◌⊎◌, inl, inr, Bool, true, false, None, Some, List, [], ◌∷◌, ◌++◌, length, refl, arith, ap, ◌∙◌, sym, subst, get_or}
use Rattle.std.specs.Prelude.{slice_index_or}
use Rattle.std.proofs.lemmas.List.{length-append, append_assoc, get_or_append_left}
use Rattle.std.proofs.Math.Seq.{get_or-append_seam}
use Rattle.bounds_plan.specs.steps.Code.{fat_function, fat_parameters, arrived, in_turn, most_pairs}
use Rattle.bounds_plan.specs.steps.Compiled.{ParametersStand, sorts_of}
use Rattle.bounds_plan.specs.meaning.Functions.{FunctionOfC, Parameter, Private, Framed}
use Rattle.reg_assign.specs.Wishing.{WishesFor, AreWishes}
use Rattle.asked_steps.specs.Wishes.{numbers_in, bounds_in, behind_two, parameters_wish}

-- the temporaries in which parameters arrive have their sorts in a list
module _ (list : List Bool) where
  abbrev pub ArrivedAt : List Parameter → ℕ → Type 0
  ArrivedAt [] t = Unit {0}
  ArrivedAt (Private x kind ∷ ps) t = ArrivedAt ps t
  ArrivedAt (Framed offset (Some kind) ∷ ps) t = (slice_index_or list t false ≡ false) × ArrivedAt ps (t + 1)
  ArrivedAt (Framed offset None ∷ ps) t = (slice_index_or list t false ≡ false) × (slice_index_or list (t + 1) false ≡ true) × ArrivedAt ps (t + 2)

  read_at : (front back : List Bool) (b : Bool) (t : ℕ) → list ≡ front ++ b ∷ back → t ≡ length front → slice_index_or list t false ≡ b
  read_at front back b t e at = ap (λ (xs : List Bool). slice_index_or xs t false) e ∙ ap (λ n. slice_index_or (front ++ b ∷ back) n false) at ∙ get_or-append_seam front b back false

  grown : (front back : List Bool) (b : Bool) → list ≡ front ++ b ∷ back → list ≡ (front ++ b ∷ []) ++ back
  grown front back b e = e ∙ sym (append_assoc front (b ∷ []) back)

  longer : (front : List Bool) (b : Bool) (t : ℕ) → t ≡ length front → t + 1 ≡ length (front ++ b ∷ [])
  longer front b t at = let e = length-append front (b ∷ []) in omega arith

  pub arrived_at : (ps : List Parameter) (front back : List Bool) (t : ℕ) → list ≡ front ++ (arrived ps ++ back) → t ≡ length front → ArrivedAt ps t
  arrived_at [] front back t e at = tt
  arrived_at (Private x kind ∷ ps) front back t e at = arrived_at ps front back t e at
  arrived_at (Framed offset (Some kind) ∷ ps) front back t e at =
      (read_at front (arrived ps ++ back) false t e at, arrived_at ps (front ++ false ∷ []) back (t + 1) (grown front (arrived ps ++ back) false e) (longer front false t at))
  arrived_at (Framed offset None ∷ ps) front back t e at =
      let one = grown front (true ∷ (arrived ps ++ back)) false e in
      let at_1 = longer front false t at in
      let two = grown (front ++ false ∷ []) (arrived ps ++ back) true one in
      let at_2 : t + 2 ≡ length ((front ++ false ∷ []) ++ true ∷ []) = let p = longer (front ++ false ∷ []) true (t + 1) at_1 in omega arith in
      (read_at front (true ∷ (arrived ps ++ back)) false t e at, read_at (front ++ false ∷ []) (arrived ps ++ back) true (t + 1) one at_1, arrived_at ps ((front ++ false ∷ []) ++ true ∷ []) back (t + 2) two at_2)

-- what wishes behind the first two of a list
pub two_behind : (xs : List ℕ) (v place : ℕ) → WishesFor (behind_two xs) v place → WishesFor xs v (place + 2)
two_behind (x ∷ y ∷ rest) v place w = let e : place + 2 ≡ suc (suc place) = omega arith in
    (let a = w.0 in omega arith, ap (λ n. get_or (x ∷ y ∷ rest) n 0) e ∙ w.1)
two_behind (x ∷ []) v place w = absurd (let a = w.0 in omega arith)
two_behind [] v place w = absurd (let a = w.0 in omega arith)

-- private ones from `home` on, or others from `temp` on
abbrev Within : (private home temp v : ℕ) → Type 0
Within private home temp v = ((home ≤ v) × (v < private)) ⊎ (temp ≤ v)

less_within : (private home temp more later v : ℕ) → home ≤ more → temp ≤ later → Within private more later v → Within private home temp v
less_within private home temp more later v a b (inl h) = let h0 = h.0 in inl (omega arith, h.1)
less_within private home temp more later v a b (inr h) = inr (omega arith)

module _ (private : ℕ) (sorts : ℕ → Bool) where
  numbers_within : (home temp : ℕ) (ps : List Parameter) → ParametersStand private sorts home ps → (v place : ℕ) → WishesFor (numbers_in home temp (fat_parameters ps)) v place → Within private home temp v
  numbers_within home temp [] h v place w = absurd (let a = w.0 in omega arith)
  numbers_within home temp (Private x (Some kind) ∷ ps) h v zero w = let e = h.0 in let l = h.1.0 in let t = w.1 in inl (omega arith, omega arith)
  numbers_within home temp (Private x None ∷ ps) h v zero w = let e = h.0 in let l = h.1.0 in let t = w.1 in inl (omega arith, omega arith)
  numbers_within home temp (Framed offset (Some kind) ∷ ps) h v zero w = let t = w.1 in inr (omega arith)
  numbers_within home temp (Framed offset None ∷ ps) h v zero w = let t = w.1 in inr (omega arith)
  numbers_within home temp (Private x (Some kind) ∷ ps) h v (suc place) w = let a = w.0 in
      less_within private home temp (home + 1) temp v (omega arith) (omega arith) (numbers_within (home + 1) temp ps h.2 v place (omega arith, w.1))
  numbers_within home temp (Private x None ∷ ps) h v (suc place) w = let a = w.0 in
      less_within private home temp (home + 2) temp v (omega arith) (omega arith) (numbers_within (home + 2) temp ps h.2 v place (omega arith, w.1))
  numbers_within home temp (Framed offset (Some kind) ∷ ps) h v (suc place) w = let a = w.0 in
      less_within private home temp home (temp + 1) v (omega arith) (omega arith) (numbers_within home (temp + 1) ps h v place (omega arith, w.1))
  numbers_within home temp (Framed offset None ∷ ps) h v (suc place) w = let a = w.0 in
      less_within private home temp home (temp + 2) v (omega arith) (omega arith) (numbers_within home (temp + 2) ps h v place (omega arith, w.1))

  bounds_within : (home temp : ℕ) (ps : List Parameter) → ParametersStand private sorts home ps → (v place : ℕ) → WishesFor (bounds_in home temp (fat_parameters ps)) v place → Within private home temp v
  bounds_within home temp [] h v place w = absurd (let a = w.0 in omega arith)
  bounds_within home temp (Private x (Some kind) ∷ ps) h v place w =
      less_within private home temp (home + 1) temp v (omega arith) (omega arith) (bounds_within (home + 1) temp ps h.2 v place w)
  bounds_within home temp (Framed offset (Some kind) ∷ ps) h v place w =
      less_within private home temp home (temp + 1) v (omega arith) (omega arith) (bounds_within home (temp + 1) ps h v place w)
  bounds_within home temp (Private x None ∷ ps) h v zero w = let e = h.0 in let l = h.1.0 in let t = w.1 in inl (omega arith, omega arith)
  bounds_within home temp (Framed offset None ∷ ps) h v zero w = let t = w.1 in inr (omega arith)
  bounds_within home temp (Private x None ∷ ps) h v (suc place) w = let a = w.0 in
      less_within private home temp (home + 2) temp v (omega arith) (omega arith) (bounds_within (home + 2) temp ps h.2 v place (omega arith, w.1))
  bounds_within home temp (Framed offset None ∷ ps) h v (suc place) w = let a = w.0 in
      less_within private home temp home (temp + 2) v (omega arith) (omega arith) (bounds_within home (temp + 2) ps h v place (omega arith, w.1))

  -- a private one is none of those behind it, nor is another one
  private_apart : (home more temp u v : ℕ) → u < more → u < temp → Within private more temp v → u ≡ v → ⊥
  private_apart home more temp u v a b (inl h) e = let h0 = h.0 in absurd (omega arith)
  private_apart home more temp u v a b (inr h) e = absurd (omega arith)

  framed_apart : (home temp later u v : ℕ) → private ≤ temp → temp ≤ u → u < later → Within private home later v → u ≡ v → ⊥
  framed_apart home temp later u v p a b (inl h) e = let h1 = h.1 in absurd (omega arith)
  framed_apart home temp later u v p a b (inr h) e = absurd (omega arith)

  -- a list has each value once, where its first one is none of the others
  once_more : (x : ℕ) (xs : List ℕ) → ((v place : ℕ) → WishesFor xs v place → x ≡ v → ⊥) → ((v place other : ℕ) → WishesFor xs v place → WishesFor xs v other → place ≡ other)
      → (v place other : ℕ) → WishesFor (x ∷ xs) v place → WishesFor (x ∷ xs) v other → place ≡ other
  once_more x xs new once v zero zero w z = refl
  once_more x xs new once v zero (suc other) w z = absurd (new v other (let a = z.0 in omega arith, z.1) w.1)
  once_more x xs new once v (suc place) zero w z = absurd (new v place (let a = w.0 in omega arith, w.1) z.1)
  once_more x xs new once v (suc place) (suc other) w z = ap suc (once v place other (let a = w.0 in omega arith, w.1) (let a = z.0 in omega arith, z.1))

  numbers_once : (home temp : ℕ) (ps : List Parameter) → private ≤ temp → ParametersStand private sorts home ps
      → (v place other : ℕ) → WishesFor (numbers_in home temp (fat_parameters ps)) v place → WishesFor (numbers_in home temp (fat_parameters ps)) v other → place ≡ other
  numbers_once home temp [] le h = λ v place other w z. absurd (let a = w.0 in omega arith)
  numbers_once home temp (Private x (Some kind) ∷ ps) le h = let e = h.0 in let l = h.1.0 in once_more home (numbers_in (home + 1) temp (fat_parameters ps))
      (λ v place w. private_apart home (home + 1) temp home v (omega arith) (omega arith) (numbers_within (home + 1) temp ps h.2 v place w)) (numbers_once (home + 1) temp ps le h.2)
  numbers_once home temp (Private x None ∷ ps) le h = let e = h.0 in let l = h.1.0 in once_more home (numbers_in (home + 2) temp (fat_parameters ps))
      (λ v place w. private_apart home (home + 2) temp home v (omega arith) (omega arith) (numbers_within (home + 2) temp ps h.2 v place w)) (numbers_once (home + 2) temp ps le h.2)
  numbers_once home temp (Framed offset (Some kind) ∷ ps) le h = once_more temp (numbers_in home (temp + 1) (fat_parameters ps))
      (λ v place w. framed_apart home temp (temp + 1) temp v le (omega arith) (omega arith) (numbers_within home (temp + 1) ps h v place w)) (numbers_once home (temp + 1) ps (omega arith) h)
  numbers_once home temp (Framed offset None ∷ ps) le h = once_more temp (numbers_in home (temp + 2) (fat_parameters ps))
      (λ v place w. framed_apart home temp (temp + 2) temp v le (omega arith) (omega arith) (numbers_within home (temp + 2) ps h v place w)) (numbers_once home (temp + 2) ps (omega arith) h)

  bounds_once : (home temp : ℕ) (ps : List Parameter) → private ≤ temp → ParametersStand private sorts home ps
      → (v place other : ℕ) → WishesFor (bounds_in home temp (fat_parameters ps)) v place → WishesFor (bounds_in home temp (fat_parameters ps)) v other → place ≡ other
  bounds_once home temp [] le h = λ v place other w z. absurd (let a = w.0 in omega arith)
  bounds_once home temp (Private x (Some kind) ∷ ps) le h = bounds_once (home + 1) temp ps le h.2
  bounds_once home temp (Framed offset (Some kind) ∷ ps) le h = bounds_once home (temp + 1) ps (omega arith) h
  bounds_once home temp (Private x None ∷ ps) le h = let e = h.0 in let l = h.1.0 in once_more (home + 1) (bounds_in (home + 2) temp (fat_parameters ps))
      (λ v place w. private_apart home (home + 2) temp (home + 1) v (omega arith) (omega arith) (bounds_within (home + 2) temp ps h.2 v place w)) (bounds_once (home + 2) temp ps le h.2)
  bounds_once home temp (Framed offset None ∷ ps) le h = once_more (temp + 1) (bounds_in home (temp + 2) (fat_parameters ps))
      (λ v place w. framed_apart home temp (temp + 2) (temp + 1) v le (omega arith) (omega arith) (bounds_within home (temp + 2) ps h v place w)) (bounds_once home (temp + 2) ps (omega arith) h)

-- ---- sorts

module _ (name : ℕ) (f : FunctionOfC) where
  abbrev private_of : ℕ
  private_of = length f.privates

  abbrev base : ℕ
  base = private_of + length (arrived f.parameters)

  abbrev list_of : List Bool
  list_of = (fat_function name f).bounds

  -- a value that is there from the first step on, of a sort
  abbrev pub Comes : (b : Bool) → (v : ℕ) → Type 0
  Comes b v = (v < base) × (slice_index_or list_of v false ≡ b)

  in_privates : (x : ℕ) → x < private_of → slice_index_or list_of x false ≡ sorts_of f x
  in_privates x less = ap (λ (xs : List Bool). slice_index_or xs x false) (append_assoc f.privates (arrived f.parameters) (in_turn most_pairs)) ∙ get_or_append_left f.privates (arrived f.parameters ++ in_turn most_pairs) false x less

  -- the values of a parameter come, and those of the parameters behind it
  abbrev pub AllCome : (home temp : ℕ) → List Parameter → Type 0
  AllCome home temp [] = Unit {0}
  AllCome home temp (Private x (Some kind) ∷ ps) = Comes false home × AllCome (home + 1) temp ps
  AllCome home temp (Private x None ∷ ps) = Comes false home × Comes true (home + 1) × AllCome (home + 2) temp ps
  AllCome home temp (Framed offset (Some kind) ∷ ps) = Comes false temp × AllCome home (temp + 1) ps
  AllCome home temp (Framed offset None ∷ ps) = Comes false temp × Comes true (temp + 1) × AllCome home (temp + 2) ps

  come : (home temp : ℕ) (ps : List Parameter) → temp + length (arrived ps) ≤ base → ParametersStand private_of (sorts_of f) home ps → ArrivedAt list_of ps temp → AllCome home temp ps
  come home temp [] le h t = tt
  come home temp (Private x (Some kind) ∷ ps) le h t = let e = h.0 in let l = h.1.0 in let less : home < private_of = omega arith in
      ((omega arith, in_privates home less ∙ (ap (sorts_of f) (sym e) ∙ h.1.1)), come (home + 1) temp ps le h.2 t)
  come home temp (Private x None ∷ ps) le h t = let e = h.0 in let l = h.1.0 in let less : home + 1 < private_of = omega arith in (
    (omega arith, in_privates home (omega arith) ∙ (ap (sorts_of f) (sym e) ∙ h.1.1)),
    (omega arith, in_privates (home + 1) less ∙ (ap (λ (v : ℕ). sorts_of f (v + 1)) (sym e) ∙ h.1.2)),
    come (home + 2) temp ps le h.2 t,
  )
  come home temp (Framed offset (Some kind) ∷ ps) le h t = ((omega arith, t.0), come home (temp + 1) ps (omega arith) h t.1)
  come home temp (Framed offset None ∷ ps) le h t = ((omega arith, t.0), (omega arith, t.1), come home (temp + 2) ps (omega arith) h t.2)

  pub all_come : ParametersStand private_of (sorts_of f) 0 f.parameters → AllCome 0 private_of f.parameters
  all_come h = come 0 private_of f.parameters (omega arith) h
      (arrived_at list_of f.parameters f.privates (in_turn most_pairs) private_of (append_assoc f.privates (arrived f.parameters) (in_turn most_pairs)) refl)

  numbers_come : (home temp : ℕ) (ps : List Parameter) → AllCome home temp ps → (v place : ℕ) → WishesFor (numbers_in home temp (fat_parameters ps)) v place → Comes false v
  numbers_come home temp [] c v place w = absurd (let a = w.0 in omega arith)
  numbers_come home temp (Private x (Some kind) ∷ ps) c v zero w = subst (Comes false) w.1 c.0
  numbers_come home temp (Private x None ∷ ps) c v zero w = subst (Comes false) w.1 c.0
  numbers_come home temp (Framed offset (Some kind) ∷ ps) c v zero w = subst (Comes false) w.1 c.0
  numbers_come home temp (Framed offset None ∷ ps) c v zero w = subst (Comes false) w.1 c.0
  numbers_come home temp (Private x (Some kind) ∷ ps) c v (suc place) w = let a = w.0 in numbers_come (home + 1) temp ps c.1 v place (omega arith, w.1)
  numbers_come home temp (Private x None ∷ ps) c v (suc place) w = let a = w.0 in numbers_come (home + 2) temp ps c.2 v place (omega arith, w.1)
  numbers_come home temp (Framed offset (Some kind) ∷ ps) c v (suc place) w = let a = w.0 in numbers_come home (temp + 1) ps c.1 v place (omega arith, w.1)
  numbers_come home temp (Framed offset None ∷ ps) c v (suc place) w = let a = w.0 in numbers_come home (temp + 2) ps c.2 v place (omega arith, w.1)

  bounds_come : (home temp : ℕ) (ps : List Parameter) → AllCome home temp ps → (v place : ℕ) → WishesFor (bounds_in home temp (fat_parameters ps)) v place → Comes true v
  bounds_come home temp [] c v place w = absurd (let a = w.0 in omega arith)
  bounds_come home temp (Private x (Some kind) ∷ ps) c v place w = bounds_come (home + 1) temp ps c.1 v place w
  bounds_come home temp (Framed offset (Some kind) ∷ ps) c v place w = bounds_come home (temp + 1) ps c.1 v place w
  bounds_come home temp (Private x None ∷ ps) c v zero w = subst (Comes true) w.1 c.1
  bounds_come home temp (Framed offset None ∷ ps) c v zero w = subst (Comes true) w.1 c.1
  bounds_come home temp (Private x None ∷ ps) c v (suc place) w = let a = w.0 in bounds_come (home + 2) temp ps c.2 v place (omega arith, w.1)
  bounds_come home temp (Framed offset None ∷ ps) c v (suc place) w = let a = w.0 in bounds_come home (temp + 2) ps c.2 v place (omega arith, w.1)

  pub may_wish : ParametersStand private_of (sorts_of f) 0 f.parameters → length (parameters_wish f).numbers ≤ 6 → length (parameters_wish f).bounds ≤ 2
      → AreWishes (fat_function name f) (parameters_wish f)
  may_wish h few few_too = record {
    numbers = record {
      few = few;
      first = λ v is. (numbers_come 0 private_of f.parameters (all_come h) v is.place is.wishes).0;
      kind = λ v is. (numbers_come 0 private_of f.parameters (all_come h) v is.place is.wishes).1;
      once = numbers_once private_of (sorts_of f) 0 private_of f.parameters (omega arith) h;
    };
    bounds = record {
      few = few_too;
      first = λ v is. (bounds_come 0 private_of f.parameters (all_come h) v (is.place + 2) (two_behind (bounds_in 0 private_of (fat_parameters f.parameters)) v is.place is.wishes)).0;
      kind = λ v is. (bounds_come 0 private_of f.parameters (all_come h) v (is.place + 2) (two_behind (bounds_in 0 private_of (fat_parameters f.parameters)) v is.place is.wishes)).1;
      once = λ v place other w z. let e = bounds_once private_of (sorts_of f) 0 private_of f.parameters (omega arith) h v (place + 2) (other + 2)
          (two_behind (bounds_in 0 private_of (fat_parameters f.parameters)) v place w) (two_behind (bounds_in 0 private_of (fat_parameters f.parameters)) v other z) in omega arith;
    };
  }
