-- How long the printed lines are, where the numbers in them are small (R-13's 36, 288 and 400).
use Prim.Native.Nat.{ℕ, zero, suc, ◌+◌, ◌-◌, ◌*◌, ◌/◌, ◌%◌, ◌^◌, ◌≤◌, ◌<◌}
use Prim.Native.String.{String}
use mathlib.Core.Path.{◌≡◌, refl, sym, ap, ◌∙◌}
use mathlib.Core.Bool.{Bool, true, false}
use mathlib.Core.Option.{Option, none, some}
use mathlib.Core.List.{List, [], ◌∷◌, ◌++◌}
use native.Mathlib.Nat.{div-le_self, le_trans}
use native.Mathlib.Omega.{arith}
use lib.ListN.{length, length-append}
use Rattle.script.specs.Invariants.{Modest}
use Rattle.model.specs.Types.{LeaveReason, Exit, Block, Yield, Quantum, Preempt, Forced, Out, SwitchEntry}
use Rattle.model.specs.Accounting.{Sums}
use Rattle.model.specs.Calls.{JoinOutcome, Wait, Done, Invalid}
use Rattle.text.specs.Bytes.{ascii, decimal}
use Rattle.text.specs.Lines.{commas, written}
use Rattle.script.specs.Report.{reason_word, join_word, maybe, out_tid, out_reason, switch_text, switch_texts, joined_text, refused_text, in_tenths, tenths, mean_text, summary_text}
use Rattle.text.proofs.Decimal.{decimal-length, decimal-some}

pub written-length : (key : String) (fs : List (List ℕ)) → length (written key fs) ≡ length (ascii key) + length (commas fs) + 2
unfolding written
written-length key fs = simp length-append (omega arith)

commas-one : (f : List ℕ) → length (commas (f ∷ [])) ≡ length f
unfolding commas
commas-one f = refl

commas-more : (f g : List ℕ) (fs : List (List ℕ)) → length (commas (f ∷ g ∷ fs)) ≡ length f + length (commas (g ∷ fs)) + 1
unfolding commas
commas-more f g fs = length-append f (44 ∷ commas (g ∷ fs)) ∙ omega arith

---- what a call prints

pub refused-length : (n k : ℕ) → n < 10 ^ 13 → k < 100 → length (refused_text n k) ≤ 36
unfolding refused_text
refused-length n k h g =
    omega (arith, written-length "refused" (decimal n ∷ decimal k ∷ []), commas-more (decimal n) (decimal k) [], commas-one (decimal k), decimal-length 12 n (omega arith), decimal-length 1 k (omega arith))

join-word : (j : JoinOutcome) → length (join_word j) ≤ 7
join-word Wait = omega arith
join-word Done = omega arith
join-word Invalid = omega arith

pub joined_length : (n : ℕ) (j : JoinOutcome) → n < 10 ^ 13 → length (joined_text n j) ≤ 36
unfolding joined_text
joined_length n j h =
    omega (arith, written-length "joined" (decimal n ∷ join_word j ∷ []), commas-more (decimal n) (join_word j) [], commas-one (join_word j), decimal-length 12 n (omega arith), join-word j)

reason-word : (r : LeaveReason) → length (reason_word r) ≤ 7
reason-word Exit = omega arith
reason-word Block = omega arith
reason-word Yield = omega arith
reason-word Quantum = omega arith
reason-word Preempt = omega arith
reason-word Forced = omega arith

-- the threads that an entry names are below 1,000, its core below 10
abbrev pub Below : ℕ → Option ℕ → Type 0
Below m none = Unit {0}
Below m (some n) = n < m

pub record Short (e : SwitchEntry) : Type 0 where
  pub core : e.core < 10
  pub out : Below 1000 (out_tid e.out)
  pub inn : Below 1000 e.inn

maybe-length : (o : Option ℕ) → Below 1000 o → length (maybe o) ≤ 3
unfolding maybe
maybe-length none h = omega arith
maybe-length (some n) h = decimal-length 2 n (omega arith)

reason-length : (o : Option Out) → length (out_reason o) ≤ 7
unfolding out_reason
reason-length none = omega arith
reason-length (some o) = reason-word o.reason

pub switch-length : (now : ℕ) (e : SwitchEntry) → now < 10 ^ 10 → Short e → length (switch_text now e) ≤ 36
unfolding switch_text
switch-length now e h s =
    let a = decimal now in
    let b = decimal e.core in
    let c = maybe (out_tid e.out) in
    let d = out_reason e.out in
    let f = maybe e.inn in
    omega (
      arith,
      written-length "switch" (a ∷ b ∷ c ∷ d ∷ f ∷ []),
      commas-more a b (c ∷ d ∷ f ∷ []),
      commas-more b c (d ∷ f ∷ []),
      commas-more c d (f ∷ []),
      commas-more d f [],
      commas-one f,
      decimal-length 9 now (omega arith),
      decimal-length 0 e.core s.core,
      maybe-length (out_tid e.out) s.out,
      reason-length e.out,
      maybe-length e.inn s.inn,
    )

abbrev pub AllShort : List SwitchEntry → Type 0
AllShort [] = Unit {0}
AllShort (e ∷ es) = Short e × AllShort es

pub switches-length : (now : ℕ) (es : List SwitchEntry) → now < 10 ^ 10 → AllShort es → length (switch_texts now es) ≤ 36 * length es
unfolding switch_texts
switches-length now [] h s = omega arith
switches-length now (e ∷ es) h s = omega (arith, length-append (switch_text now e) (switch_texts now es), switch-length now e h s.0, switches-length now es h s.1)

---- the summary

pub mean-length : (sum count : ℕ) → sum < 10 ^ 20 → length (mean_text sum count) ≤ 22
unfolding mean_text tenths in_tenths
mean-length sum zero h = omega arith
mean-length sum (suc n) h =
    let t : ℕ = sum * 10 / suc n in
    let small : t ≤ sum * 10 = div-le_self (sum * 10) (suc n) in
    let tens : t / 10 < 10 ^ 20 = omega arith in
    omega (arith, length-append (decimal (t / 10)) (46 ∷ decimal (t % 10)), decimal-length 19 (t / 10) tens, decimal-length 0 (t % 10) (omega arith))

-- a line of one field
line-length : (key : String) (f : List ℕ) (m : ℕ) → length f ≤ m → length (written key (f ∷ [])) ≤ length (ascii key) + m + 2
line-length key f m h = omega (arith, written-length key (f ∷ []), commas-one f)

number-line : (key : String) (n : ℕ) → n < 10 ^ 20 → length (written key (decimal n ∷ [])) ≤ length (ascii key) + 22
number-line key n h = omega (arith, line-length key (decimal n) 20 (decimal-length 19 n h))

pub summary_text-length : (now : ℕ) (s : Sums) → Modest now s → length (summary_text now s) ≤ 400
unfolding summary_text
summary_text-length now s h =
    simp length-append
    (omega (
      arith,
      number-line "threads" s.threads h.threads,
      number-line "finished" s.finished h.finished,
      number-line "ticks" now h.now,
      number-line "context_switches" s.context_switches h.context_switches,
      number-line "preemptions" s.preemptions h.preemptions,
      line-length "waiting" (mean_text s.waiting s.threads) 22 (mean-length s.waiting s.threads h.waiting),
      line-length "response" (mean_text s.response s.responded) 22 (mean-length s.response s.responded h.response),
      line-length "turnaround" (mean_text s.turnaround s.finished) 22 (mean-length s.turnaround s.finished h.turnaround),
      number-line "busy" s.busy h.busy,
      number-line "core_ticks" s.core_ticks h.core_ticks,
    ))
