-- The first of three lists that are joined.
use Rattle.std.proofs.Common.{◌≡◌, ap, ◌∙◌, List, [], ◌++◌}
use Rattle.c_check_typing.specs.declared.fault.Broken.{Broken}
use Rattle.c_check_typing.specs.Refusals.{FirstIs}

pub none_of_three : {xs ys zs : List Broken} → xs ≡ [] → ys ≡ [] → zs ≡ [] → xs ++ (ys ++ zs) ≡ []
none_of_three {ys = ys} {zs = zs} e f g = ap (λ (l : List Broken). l ++ (ys ++ zs)) e ∙ (ap (λ (l : List Broken). l ++ zs) f ∙ g)

pub first_of_three : {xs : List Broken} {b : Broken} (ys zs : List Broken) → FirstIs xs b → FirstIs (xs ++ (ys ++ zs)) b
first_of_three ys zs h = record { more = h.more ++ (ys ++ zs); is = ap (λ (l : List Broken). l ++ (ys ++ zs)) h.is }

pub second_of_three : {xs ys : List Broken} {b : Broken} (zs : List Broken) → xs ≡ [] → FirstIs ys b → FirstIs (xs ++ (ys ++ zs)) b
second_of_three {ys = ys} zs e h = record { more = h.more ++ zs; is = ap (λ (l : List Broken). l ++ (ys ++ zs)) e ∙ ap (λ (l : List Broken). l ++ zs) h.is }

pub third_of_three : {xs ys zs : List Broken} {b : Broken} → xs ≡ [] → ys ≡ [] → FirstIs zs b → FirstIs (xs ++ (ys ++ zs)) b
third_of_three {ys = ys} {zs = zs} e f h = record { more = h.more; is = ap (λ (l : List Broken). l ++ (ys ++ zs)) e ∙ (ap (λ (l : List Broken). l ++ zs) f ∙ h.is) }
