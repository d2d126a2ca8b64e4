-- What an element more does to what is said of a list, where there is memory for it, and where there is none.
use Rattle.std.proofs.Common.{Result, Ok, Err, OnOk, OnErr}

pub where_added : {X E : Type 0} (r : Result X E) (P Q : Type 0) → (P → Q) → OnOk r P → OnOk r Q
where_added (Ok x) P Q f h = f h
where_added (Err e) P Q f h = tt

pub where_kept : {X E : Type 0} (r : Result X E) (P Q : Type 0) → (P → Q) → OnErr r P → OnErr r Q
where_kept (Ok x) P Q f h = tt
where_kept (Err e) P Q f h = f h
