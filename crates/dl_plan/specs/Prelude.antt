-- The definitions that other crates cite, passed on from one place. Declares nothing.
pub use Rattle.dl_plan.specs.At.{IsIndependentAt, IsPlanAt, IsUnitAt, IsUnitOn}
pub use Rattle.dl_plan.specs.Clause.{Clause, IsBelowTop, IsClause, ceded, kept, layer, layer_shares}
pub use Rattle.dl_plan.specs.Common.{CanRaise, CanShare, HasCommonFactor, IsGamma, IsPoisson, can_share, expected_of, is_poisson, raised, shared_probabilities, thinned_of, unit_share}
pub use Rattle.dl_plan.specs.Count.{IsClaimCount, IsExposed, IsGammaCount, IsProbability, IsShape, IsThinnedGamma, IsThinnedTo, IsUnbounded, expected_count}
pub use Rattle.dl_plan.specs.Facts.{facts_of}
pub use Rattle.dl_plan.specs.Fine.{HasPartsOf48Bits, IsFineTo30Bits, IsFineTo40Bits, IsWhole, common_denominator, numerator_over}
pub use Rattle.dl_plan.specs.Forms.{IsOfCert, IsOfPlan}
pub use Rattle.dl_plan.specs.Horizon.{HorizonPasses, IsHorizon, IsHorizonOf, edge, edge_of}
unfoldable pub use Rattle.dl_plan.specs.Horizon.{horizon}
pub use Rattle.dl_plan.specs.MeanWidth.{mean_width, part_width}
pub use Rattle.dl_plan.specs.Means.{declared_mean, thinned_mean}
pub use Rattle.dl_plan.specs.Parts.{kept_parts, parts_in_bucket}
pub use Rattle.dl_plan.specs.Plain.{IsPlainByte}
pub use Rattle.dl_plan.specs.Ranges.{AreInRange, IsAskInRange, IsBucket, IsLevel}
pub use Rattle.dl_plan.specs.Severity.{HasDistribution, Pairs, conditioned, mean_amount, pairs_of, probability, probability_of}
pub use Rattle.dl_plan.specs.Shared.{SharesFactor}
pub use Rattle.dl_plan.specs.Size.{AreFew, changed_units, growth, whole_mean, whole_means}
pub use Rattle.dl_plan.specs.Terms.{ArePriced, most_terms, most_weight_parts}
pub use Rattle.dl_plan.specs.Valid.{IsAggregate, IsNewZero, IsSomeClaim, IsValid, IsValidUnit, claims_alone}
pub use Rattle.dl_plan.specs.Weighted.{IsWeighted, amounts_of, common_amount, common_weight, divided_by, greatest, weight_at, weight_sum, weighted_sum}
