use Rattle.pt_gpt.specs.Entries.{EntryFields, EntryBytes, IsTyped}
use Rattle.pt_gpt.proofs.Written.{used_fields, used_entry}
use Rattle.pt_gpt.proofs.entry.encode_entry.Goals as goal

pub returns-in-Some-clause-fields : goal.returns-in-Some-clause-fields
returns-in-Some-clause-fields c =
    let told = c.used.ensures in
    let fields : EntryFields c.in-Some.entry.now c.used.result = rw told.bytes (used_fields c.in-Some.entry.now told.fits) in
    rw c.in-Some.is fields

pub returns-in-Some-clause-used : goal.returns-in-Some-clause-used
returns-in-Some-clause-used c =
    let told = c.used.ensures in
    let is : IsTyped c.in-Some.entry.now → EntryBytes c.in-Some.entry.now c.used.result =
    λ typed. rw told.bytes (used_entry c.in-Some.entry.now told.fits typed) in
    rw c.in-Some.is is
