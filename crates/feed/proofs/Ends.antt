-- What the callees of `advance` leave, put together.
use Rattle.std.specs.Prelude.{Ok, Err, Result}
use Prim.Native.Nat.{ℕ}
use mathlib.Core.Path.{◌≡◌, refl, subst}
use Rattle.settings.specs.declared.Refusal.{Refusal}
use Rattle.settings.specs.declared.SchedConfig.{SchedConfig}
use Rattle.state.specs.declared.Capacities.{Capacities}
use Rattle.state.specs.Memory.{Memory}
use Rattle.tick_plan.specs.DoneWith.{DoneWith}
use Rattle.new_plan.specs.declared.Created.{Created}
use Rattle.new_plan.specs.Made.{NewDone}
use Rattle.sched.specs.declared.Call.{Call}
use Rattle.sched.specs.declared.Applied.{Applied}
use Rattle.sched.specs.Meant.{call_meant, outcome_meant}
use Rattle.feed_plan.specs.declared.Report.{Report}
use Rattle.feed_plan.specs.declared.Line.{Line}
use Rattle.feed_plan.specs.declared.Line.TheVariants as Cases
use Rattle.feed_plan.specs.declared.Next.{Next}
use Rattle.feed_plan.specs.Steps.{report_capacities, quiet_next, refused_next, created_next, applied_next}
use Rattle.feed_plan.specs.Feeding.{LineAsked, LineDone}
use Rattle.feed_plan.proofs.Feeding.{refused-done, quiet_done, start-done, call-done}

module _ (r : Report) (m : Memory) where
  pub refused-left : (l : Result Line Refusal) (k : Refusal) (y : Next) → l ≡ Err k → y ≡ refused_next r k → LineAsked r l m → LineDone r l m m y
  refused-left l k y e q a =
      let b : LineAsked r (Err k) m = subst (λ (x : Result Line Refusal). LineAsked r x m) e a in
      rw (e, q) (refused-done r m k (Err k) b.fits.0 b.fits.1 b.held refl)

  pub quiet-left : (l : Result Line Refusal) (y : Next) → l ≡ Ok Cases.Nothing → y ≡ quiet_next r → LineAsked r l m → LineDone r l m m y
  quiet-left l y e q a = rw (e, q) (quiet_done r m (subst (λ (x : Result Line Refusal). LineAsked r x m) e a))

  pub started : (l : Result Line Refusal) (c : SchedConfig) (n : ℕ) (m' : Memory) (k : Capacities) (x : Created) (y : Next) → l ≡ Ok (Cases.Start c n) → k ≡ report_capacities → y ≡ created_next r x
      → LineAsked r l m → NewDone c n k 0 m m' x.sched x.answer → LineDone r l m m' y
  started l c n m' k x y e s q a d =
      rw (e, q)
      (start-done r c n m m' x (subst (λ (k : Result Line Refusal). LineAsked r k m) e a)
      (subst (λ (j : Capacities). NewDone c n j 0 m m' x.sched x.answer) s d))

  pub applied : (l : Result Line Refusal) (c : Call) (m' : Memory) (x : Applied) (y : Next) → l ≡ Ok (Cases.Call c) → y ≡ applied_next r x → LineAsked r l m
      → DoneWith (call_meant c) (outcome_meant x.outcome x.switches) x.switches r.sched x.sched m m' → LineDone r l m m' y
  applied l c m' x y e w a d = rw (e, w) (call-done r c x m m' (subst (λ (k : Result Line Refusal). LineAsked r k m) e a) d)
