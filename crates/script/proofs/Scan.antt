-- R-13's sum without scheduling: a scan of the lines that reads them and runs nothing. What the report program prints fits into it.
use Prim.Native.Nat.{ℕ, zero, suc, ◌+◌, ◌≤◌, ◌<◌}
use mathlib.Core.Path.{◌≡◌, refl, sym, ap, ◌∙◌, subst}
use mathlib.Core.Option.{Option, none, some}
use mathlib.Core.List.{List, [], ◌∷◌, ◌++◌}
use native.Mathlib.Omega.{arith}
use lib.ListN.{length}
use Rattle.model.specs.Types.{State}
use Rattle.model.specs.Calls.{Call, Made, made, unmade}
use Rattle.text.specs.Lines.{Read, bad, good, cut}
use Rattle.settings.specs.Settings.{Head, none_yet}
use Rattle.script.specs.Script.{Heading, more, done, head_line, call_line}
use Rattle.script.specs.Report.{Stage, heads, calls, ended, over, Report, Fed, start, created, begun, headed, said, called, fed, line_at, feed, report}
use Rattle.script.proofs.Room.{call_room, line_room, room_for, report-room}

pub data Scan : Type 0 where
  in_head : Head → Scan
  in_calls at_end : Scan

unfoldable pub head_next : Read Heading → Scan
head_next (bad k) = at_end
head_next (good (more h)) = in_head h
head_next (good (done c n)) = in_calls

unfoldable pub call_next : Read Call → Scan
call_next (bad k) = at_end
call_next (good c) = in_calls

unfoldable pub scan_next : Scan → Option (List ℕ) → Scan
scan_next (in_head h) none = at_end
scan_next (in_head h) (some l) = head_next (head_line h l)
scan_next in_calls none = at_end
scan_next in_calls (some l) = call_next (call_line l)
scan_next at_end l = at_end

-- 02: "288 bytes for each tick line, 36 for each other line"; "Counting ends after the first bad call line, which counts as one of the other lines."
unfoldable pub scan_room : Scan → Option (List ℕ) → ℕ
scan_room (in_head h) l = 36
scan_room in_calls none = 36
scan_room in_calls (some l) = call_room (call_line l)
scan_room at_end l = 0

-- "and 400 for the rest"
unfoldable pub scan_for : (lines : ℕ) → Scan → List (List ℕ) → ℕ
scan_for n g [] = 400
scan_for n g (l ∷ ls) = scan_room g (line_at (suc n) l) + scan_for (suc n) (scan_next g (line_at (suc n) l)) ls

-- a stage and where the scan stands
abbrev Under : Stage → Scan → Type 0
Under (heads h) g = g ≡ in_head h
Under (calls s) g = g ≡ in_calls
Under (ended s) g = Unit {0}
Under over g = Unit {0}

room-under : (p : Stage) (g : Scan) (o : Option (List ℕ)) → Under p g → line_room p o ≤ scan_room g o
unfolding line_room scan_room
room-under (heads h) g o u = rw u (omega arith)
room-under (calls s) g none u = rw u (omega arith)
room-under (calls s) g (some l) u = rw u (omega arith)
room-under (ended s) g o u = omega arith
room-under over g o u = omega arith

next-begun : (n : ℕ) (m : Made) → Under (begun n m).report.stage in_calls
unfolding begun
next-begun n (unmade k) = tt
next-begun n (made s) = refl

next-head : (n : ℕ) (r : Read Heading) → Under (headed n r).report.stage (head_next r)
unfolding headed head_next
next-head n (bad k) = tt
next-head n (good (more h)) = refl
next-head n (good (done c k)) = next-begun n (created c k)

next-call : (n : ℕ) (s : State) (r : Read Call) → Under (called n s r).report.stage (call_next r)
unfolding called said call_next
next-call n s (bad k) = tt
next-call n s (good c) = refl

next_under : (n : ℕ) (p : Stage) (g : Scan) (o : Option (List ℕ)) → Under p g → Under (fed n p o).report.stage (scan_next g o)
unfolding fed scan_next headed called
next_under n (heads h) g none u = tt
next_under n (heads h) g (some l) u = subst (λ (x : Scan). Under (headed n (head_line h l)).report.stage (scan_next x (some l))) (sym u) (next-head n (head_line h l))
next_under n (calls s) g none u = tt
next_under n (calls s) g (some l) u = subst (λ (x : Scan). Under (called n s (call_line l)).report.stage (scan_next x (some l))) (sym u) (next-call n s (call_line l))
next_under n (ended s) g o u = tt
next_under n over g o u = tt

---- each line is counted

lines-begun : (n : ℕ) (m : Made) → (begun n m).report.lines ≡ n
unfolding begun
lines-begun n (unmade k) = refl
lines-begun n (made s) = refl

lines-head : (n : ℕ) (r : Read Heading) → (headed n r).report.lines ≡ n
unfolding headed
lines-head n (bad k) = refl
lines-head n (good (more h)) = refl
lines-head n (good (done c k)) = lines-begun n (created c k)

lines-call : (n : ℕ) (s : State) (r : Read Call) → (called n s r).report.lines ≡ n
unfolding called said
lines-call n s (bad k) = refl
lines-call n s (good c) = refl

lines-fed : (n : ℕ) (p : Stage) (o : Option (List ℕ)) → (fed n p o).report.lines ≡ n
unfolding fed headed called
lines-fed n (heads h) none = refl
lines-fed n (heads h) (some l) = lines-head n (head_line h l)
lines-fed n (calls s) none = refl
lines-fed n (calls s) (some l) = lines-call n s (call_line l)
lines-fed n (ended s) o = refl
lines-fed n over o = refl

pub feed-lines : (r : Report) (l : List ℕ) → (feed r l).report.lines ≡ suc r.lines
unfolding feed
feed-lines r l = lines-fed (suc r.lines) r.stage (line_at (suc r.lines) l)

---- the sum

fed-under : (r : Report) (l : List ℕ) (g : Scan) → Under r.stage g → Under (feed r l).report.stage (scan_next g (line_at (suc r.lines) l))
unfolding feed
fed-under r l g u = next_under (suc r.lines) r.stage g (line_at (suc r.lines) l) u

for-under : (ls : List (List ℕ)) (r : Report) (g : Scan) → Under r.stage g → room_for r ls ≤ scan_for r.lines g ls
unfolding room_for scan_for
for-under [] r g u = omega arith
for-under (l ∷ ls) r g u =
    let o = line_at (suc r.lines) l in
    let rest : room_for (feed r l).report ls ≤ scan_for (suc r.lines) (scan_next g o) ls =
    subst (λ (n : ℕ). room_for (feed r l).report ls ≤ scan_for n (scan_next g o) ls) (feed-lines r l) (for-under ls (feed r l).report (scan_next g o) (fed-under r l g u)) in
    omega (arith, room-under r.stage g o u)

pub scan-room : (script : List ℕ) → length (report script) ≤ scan_for 0 (in_head none_yet) (cut script)
scan-room script = omega (arith, report-room script, for-under (cut script) start (in_head none_yet) refl)
