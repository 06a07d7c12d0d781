-- The lists of plans and of partial plans have each of them once, and nothing else. Assumes nothing.
use Rattle.std.proofs.Common.{◌-◌}
use Rattle.plans.specs.Plans.{PlansListed}
use Rattle.plans.proofs.Listing.{in_plan, plan_in_lem}
use Rattle.plans.proofs.InOrder.{plans_ordered, backs_once}
use Rattle.plans.proofs.Fronts.{reaching_out, reaching_in, fronts_once}
use Rattle.plans.proofs.Ends.{in_back, back_in}

-- the list of all plans has every plan once, in order, and so have the lists of partial plans theirs
pub plans_listed : PlansListed
plans_listed n arcs s = record {
  plan = in_plan n arcs;
  every = plan_in_lem n arcs;
  ordered = plans_ordered n arcs;
  front = λ k v x p. reaching_out arcs (k - 1) v p;
  fronted = λ k v x p. reaching_in arcs (k - 1) v p;
  front_once = fronts_once arcs;
  back = in_back n arcs s;
  backed = λ k v x p. back_in n arcs k v p;
  back_once = backs_once n arcs;
}
