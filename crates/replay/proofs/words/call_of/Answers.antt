use borrow.Author.Rules.{rules}
use Prim.Native.Nat.{ℕ}
use mathlib.Core.Path.{sym, ap}
use Rattle.replay.specs.Encoding.{call_of}
use Rattle.replay.proofs.Encoded.{call-other}
use Rattle.replay.proofs.words.call_of.Goals as goal

pub returns-in-1 : goal.returns-in-1
unfolding call_of
returns-in-1 c = sym (ap (λ (k : ℕ). call_of k c.args.first c.args.second) c.in-1.is)

pub returns-in-2 : goal.returns-in-2
unfolding call_of
returns-in-2 c = sym (ap (λ (k : ℕ). call_of k c.args.first c.args.second) c.in-2.is)

pub returns-in-3 : goal.returns-in-3
unfolding call_of
returns-in-3 c = sym (ap (λ (k : ℕ). call_of k c.args.first c.args.second) c.in-3.is)

pub returns-in-4 : goal.returns-in-4
unfolding call_of
returns-in-4 c = sym (ap (λ (k : ℕ). call_of k c.args.first c.args.second) c.in-4.is)

pub returns-in-5 : goal.returns-in-5
unfolding call_of
returns-in-5 c = sym (ap (λ (k : ℕ). call_of k c.args.first c.args.second) c.in-5.is)

pub returns-in-6 : goal.returns-in-6
unfolding call_of
returns-in-6 c = sym (ap (λ (k : ℕ). call_of k c.args.first c.args.second) c.in-6.is)

pub returns-in-7 : goal.returns-in-7
unfolding call_of
returns-in-7 c = sym (ap (λ (k : ℕ). call_of k c.args.first c.args.second) c.in-7.is)

pub returns-in-8 : goal.returns-in-8
unfolding call_of
returns-in-8 c = sym (ap (λ (k : ℕ). call_of k c.args.first c.args.second) c.in-8.is)

pub returns-in-10 : goal.returns-in-10
unfolding call_of
returns-in-10 c = sym (ap (λ (k : ℕ). call_of k c.args.first c.args.second) c.in-10.is)

pub returns-in-11 : goal.returns-in-11
unfolding call_of
returns-in-11 c = sym (ap (λ (k : ℕ). call_of k c.args.first c.args.second) c.in-11.is)

pub returns-in-12 : goal.returns-in-12
unfolding call_of
returns-in-12 c = sym (ap (λ (k : ℕ). call_of k c.args.first c.args.second) c.in-12.is)

pub returns-in_default : goal.returns-in_default
returns-in_default c = search (rules, call-other)
