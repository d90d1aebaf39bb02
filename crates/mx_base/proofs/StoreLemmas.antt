-- What a bounds store keeps after some calls is what they kept last.
use Rattle.std.proofs.Common.{◌≡◌, ℕ, cond, ◌==◌, Option, None, Some, List, [], ◌∷◌, refl, sym, ap, ◌∙◌}
use Rattle.std.specs.Option.{option_map}
use Rattle.mx_base.specs.declared.limits.Bounds.{Bounds}
use Rattle.mx_base.specs.BoundsStore.{BoundsStore, granule, bounds_for, touch, touched_with, with_touched, with_kept, keep_bounds, load_bounds, megabyte, StoreCall, Keeps, Loads, called, called_on, store_after, last_kept}

-- where a map gave something, there was something
pub some-from-map : {X Y : Type 0} (f : X → Y) (o : Option X) (y : Y) → option_map f o ≡ Some y → (x : X) × (o ≡ Some x) × (y ≡ f x)
some-from-map f None y e = absurd (cc)
some-from-map f (Some x) y e = (x, refl, cc)

kept-touch : (s t : BoundsStore) (a g : ℕ) → touch s a ≡ Some t → t.kept g ≡ s.kept g
kept-touch s t a g e = let some = some-from-map (with_touched s) (touched_with s.touched (megabyte a)) t e in ap (λ (u : BoundsStore). u.kept g) some.2

kept-keep : (s t : BoundsStore) (a value g : ℕ) (b : Bounds) → keep_bounds s a value b ≡ Some t → t.kept g ≡ cond (g == granule a) (Some record { value = value; bounds = b }) (s.kept g)
unfolding keep_bounds
kept-keep s t a value g b e =
    let some = some-from-map (λ u. with_kept u a value b) (touch s a) t e in
    let old = kept-touch s some.0 a g some.1 in
    ap (λ (u : BoundsStore). u.kept g) some.2 ∙ ap (λ o. cond (g == granule a) (Some record { value = value; bounds = b }) o) old

-- what a load answers, and that it leaves what is kept
load-some : (s t : BoundsStore) (a value : ℕ) (b : Bounds) → load_bounds s a value ≡ Some (b, t) → (b ≡ bounds_for value (s.kept (granule a))) × ((g : ℕ) → t.kept g ≡ s.kept g)
unfolding load_bounds
load-some s t a value b e =
    let some = some-from-map (λ u. (bounds_for value (u.kept (granule a)), u)) (touch s a) (b, t) e in
    let same : t ≡ some.0 = ap (λ (p : Bounds × BoundsStore). p.1) some.2 in (
      ap (λ (p : Bounds × BoundsStore). p.0) some.2 ∙ ap (bounds_for value) (kept-touch s some.0 a (granule a) some.1),
      λ g. ap (λ (u : BoundsStore). u.kept g) same ∙ kept-touch s some.0 a g some.1,
    )

kept-called : (s t : BoundsStore) (c : StoreCall) (earlier : List StoreCall) → ((g : ℕ) → s.kept g ≡ last_kept g earlier) → called s c ≡ Some t → (g : ℕ) → t.kept g ≡ last_kept g (c ∷ earlier)
kept-called s t (Keeps at value b) earlier old e g = kept-keep s t at value g b e ∙ ap (λ o. cond (g == granule at) (Some record { value = value; bounds = b }) o) (old g)
kept-called s t (Loads at value) earlier old e g =
    let some = some-from-map (λ (p : Bounds × BoundsStore). p.1) (load_bounds s at value) t e in
    let pair : load_bounds s at value ≡ Some (some.0.0, some.0.1) = some.1 in
    ap (λ (u : BoundsStore). u.kept g) some.2 ∙ (load-some s some.0.1 at value some.0.0 pair).1 g ∙ old g

pub kept-store_after : (calls : List StoreCall) (s : BoundsStore) → store_after calls ≡ Some s → (g : ℕ) → s.kept g ≡ last_kept g calls
kept-store_after [] s e g = let same : record { kept = λ g. None; touched = [] } ≡ s = cc in sym (ap (λ (u : BoundsStore). u.kept g) same)
kept-store_after (c ∷ earlier) s e g = elim (store_after earlier) as (λ o. store_after earlier ≡ o → called_on o c ≡ Some s → s.kept g ≡ last_kept g (c ∷ earlier)) [
  | None ↦ λ was h. absurd (cc)
  | Some t ↦ λ was h. kept-called t s c earlier (kept-store_after earlier t was) h g
] refl e

-- a load answers from the last keep of its granule
pub loaded-last : (calls : List StoreCall) (s t : BoundsStore) (a value : ℕ) (b : Bounds) → store_after calls ≡ Some s → load_bounds s a value ≡ Some (b, t) → b ≡ bounds_for value (last_kept (granule a) calls)
loaded-last calls s t a value b was e = (load-some s t a value b e).0 ∙ ap (bounds_for value) (kept-store_after calls s was (granule a))
