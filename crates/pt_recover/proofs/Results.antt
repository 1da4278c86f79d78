-- What holds whatever a result is holds of each.
use Rattle.std.specs.Prelude.{Result, OnOk, IfErr}
use Rattle.std.proofs.Common.{Ok, Err}

pub on_ok_of : {T E P : Type 0} (r : Result T E) → P → OnOk r P
on_ok_of (Ok x) p = p
on_ok_of (Err e) p = tt

pub if_err_of : {T E : Type 0} {P : E → Type 0} (r : Result T E) → ((e : E) → P e) → IfErr r P
if_err_of (Ok x) p = tt
if_err_of (Err e) p = p e
