-- The watch judges as the examples say: each is computed.
use Rattle.std.proofs.Common.{refl}
use Rattle.std.specs.List.{AllByRecursion}
use Rattle.mx_base.specs.Memory.{first_refused, first_refused_around}
use Rattle.mx_base.specs.Regions.{is_sealed}
use Rattle.x86_forms.specs.Watch.{is_c_access, is_watched, first_sealed, access_strays, is_in_outer, begins_outer, may_enter, is_legacy_control, control_strays}
use Rattle.x86_forms.specs.ExamplesOfWatch.{IsJudged, IsControlJudged, examples_of_judged_accesses, examples_of_judged_control}

pub does_accesses : AllByRecursion IsJudged examples_of_judged_accesses
unfolding IsJudged access_strays is_watched is_c_access first_sealed first_refused_around first_refused is_sealed
does_accesses = (refl, (refl, (refl, (refl, (refl, (refl, (refl, (refl, (refl, (refl, (refl, (refl, (refl, (refl, (refl, (refl, (refl, (refl, (refl, (refl, tt))))))))))))))))))))

pub does_control : AllByRecursion IsControlJudged examples_of_judged_control
unfolding IsControlJudged control_strays is_legacy_control may_enter begins_outer is_in_outer
does_control = (refl, (refl, (refl, (refl, (refl, (refl, (refl, (refl, (refl, (refl, (refl, (refl, (refl, (refl, (refl, (refl, (refl, (refl, (refl, (refl, (refl, (refl, tt))))))))))))))))))))))
