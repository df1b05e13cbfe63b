-- "The first "no" gives the number" (document 01, "Questions put to each call"): what that question means, or that every one was answered with yes.
use Rattle.std.specs.Prelude.{Option, None, Some, Result, Ok, Err}
use Rattle.base.specs.declared.refusal.Refusal.{Refusal}

abbrev pub refusal_of : Option Refusal → Result (Unit {0}) Refusal
refusal_of None = Ok tt
refusal_of (Some e) = Err e
