-- The report byte by byte, for a program that reads its input in parts: `proofs/Streams.antt` has that it prints the same.
use Rattle.std.specs.Prelude.{ℕ, zero, suc, Bool, true, false, cond, List, [], ◌∷◌, ◌++◌, eqb}
use Rattle.script.specs.Report.{Report, Fed, start, feed, finish}

-- the bytes of a line that has not ended yet
pub record StreamState : Type 0 where
  pub report : Report
  pub part : List ℕ

pub record Consumed : Type 0 where
  pub stream : StreamState
  pub out : List ℕ

abbrev pub ending : Fed → Consumed
ending f = record { stream = record { report = f.report; part = [] }; out = f.out }

unfoldable pub consume : StreamState → ℕ → Consumed
consume t x =
    let p : List ℕ = t.part ++ (x ∷ []) in
    let e : Consumed = ending (feed t.report p) in
    cond (eqb x 10) e (record { stream = record { report = t.report; part = p }; out = [] })

unfoldable pub consume_all : StreamState → List ℕ → Consumed
consume_all t [] = record { stream = t; out = [] }
consume_all t (x ∷ l) =
    let a : Consumed = consume t x in
    let b : Consumed = consume_all a.stream l in
    record { stream = b.stream; out = a.out ++ b.out }

-- at the input's end a line that has begun is a line without byte 10
unfoldable pub end_part : Report → List ℕ → List ℕ
end_part r [] = finish r
end_part r (x ∷ p) = let f : Fed = feed r (x ∷ p) in f.out ++ finish f.report

unfoldable pub end_stream : StreamState → List ℕ
end_stream t = end_part t.report t.part

abbrev pub fresh : StreamState
fresh = record { report = start; part = [] }
