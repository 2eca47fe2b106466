-- The invariant: the pieces that are left, counted on from `line`, settle to what the whole text does.
use Rattle.std.proofs.Common.{◌≡◌, ◌+◌, ◌≤◌, length}
use Rattle.std.specs.Slice.Iter.{split_inclusive_rest}
use Rattle.text.specs.Lines.{cut}
use Rattle.settings.specs.Settings.{settle, from_rcfg}
use Rattle.rcfg.specs.Reading.{head_meant}
use Rattle.rcfg.proofs.reading.from_rcfg.Given as goal

abbrev pub invariant-loop-piece : goal.invariant-loop-piece
invariant-loop-piece l =
    let rest = split_inclusive_rest l.piece-iterator in
    (l.line + length rest ≤ length l.text + 1)
    × (settle l.line (head_meant l.h) (cut rest) ≡ from_rcfg l.text)
    × (goal.iterator-loop-piece).can_next l.piece-iterator
    × (goal.iterator-loop-piece).is_finite l.piece-iterator
