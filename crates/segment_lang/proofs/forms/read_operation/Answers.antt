use Rattle.std.proofs.Common.{◌∙◌, ap, sym}
use Rattle.std.specs.Option.{option_map}
use Rattle.seg_types.specs.Commands as asked
use Rattle.segment_lang.specs.declared.commands.Operation.TheVariants as operation
use Rattle.segment_lang.specs.Reading.{key_of, name_key, new_key}
use Rattle.segment_lang.specs.Seen.{operation_of}
use Rattle.segment_lang.proofs.commands.Lexing.{alone_at_end as ends, of_appending, of_assigning, of_finding, of_handle}
use Rattle.segment_lang.proofs.commands.Lexing.{of_key, of_key_literal, of_key_number, of_key_number_literal, of_making}
use Rattle.segment_lang.proofs.commands.Lexing.{of_making_each, of_number}
use Rattle.segment_lang.proofs.tokens.Readers.{map_made}
use Rattle.segment_lang.proofs.forms.read_operation.Goals as goal

pub returns-in-Construct : goal.returns-in-Construct
returns-in-Construct c =
    rw c.in-Construct.is (c.read_construct.ensures ∙ sym (of_making asked.Construct new_key c.args.bytes.now))

pub returns-in-ConstructIt : goal.returns-in-ConstructIt
returns-in-ConstructIt c = rw c.in-ConstructIt.is (c.read_construct_it.ensures ∙ sym (of_making_each c.args.bytes.now))

pub returns-in-Find : goal.returns-in-Find
returns-in-Find c = rw c.in-Find.is (c.read_find.ensures ∙ sym (of_finding c.args.bytes.now))

pub returns-in-FindOrConstruct : goal.returns-in-FindOrConstruct
returns-in-FindOrConstruct c =
    rw c.in-FindOrConstruct.is (c.read_find_or_construct.ensures
    ∙ sym (of_making asked.FindOrConstruct name_key c.args.bytes.now))

pub returns-in-Destroy : goal.returns-in-Destroy
returns-in-Destroy c =
    rw c.in-Destroy.is (c.read_destroy.ensures ∙ sym (of_key asked.Destroy name_key c.args.bytes.now))

pub returns-in-DestroyPtr : goal.returns-in-DestroyPtr
returns-in-DestroyPtr c = rw c.in-DestroyPtr.is (c.read_destroy_ptr.ensures ∙ sym (of_handle c.args.bytes.now))

pub returns-in-Show : goal.returns-in-Show
returns-in-Show c =
    rw c.in-Show.is (map_made operation_of operation.Show _ _ c.map.ensures.cases ∙ c.only_key.ensures asked.Show
    ∙ sym (of_key asked.Show key_of c.args.bytes.now))

pub returns-in-Info : goal.returns-in-Info
returns-in-Info c =
    rw c.in-Info.is (map_made operation_of operation.Info _ _ c.map-in-Info.ensures.cases
    ∙ c.only_key-in-Info.ensures asked.Info
    ∙ sym (of_key asked.Info key_of c.args.bytes.now))

pub returns-in-Set : goal.returns-in-Set
returns-in-Set c = rw c.in-Set.is (c.read_set.ensures ∙ sym (of_key_number_literal asked.Set c.args.bytes.now))

pub returns-in-Insert : goal.returns-in-Insert
returns-in-Insert c =
    rw c.in-Insert.is (c.read_insert.ensures ∙ sym (of_key_number_literal asked.Insert c.args.bytes.now))

pub returns-in-Erase : goal.returns-in-Erase
returns-in-Erase c = rw c.in-Erase.is (c.read_erase.ensures ∙ sym (of_key_number asked.Erase c.args.bytes.now))

pub returns-in-Reserve : goal.returns-in-Reserve
returns-in-Reserve c = rw c.in-Reserve.is (c.read_reserve.ensures ∙ sym (of_key_number asked.Reserve c.args.bytes.now))

pub returns-in-Shrink : goal.returns-in-Shrink
returns-in-Shrink c =
    rw c.in-Shrink.is (map_made operation_of operation.Shrink _ _ c.map-in-Shrink.ensures.cases
    ∙ c.only_key-in-Shrink.ensures asked.Shrink
    ∙ sym (of_key asked.Shrink key_of c.args.bytes.now))

pub returns-in-Clear : goal.returns-in-Clear
returns-in-Clear c =
    rw c.in-Clear.is (map_made operation_of operation.Clear _ _ c.map-in-Clear.ensures.cases
    ∙ c.only_key-in-Clear.ensures asked.Clear
    ∙ sym (of_key asked.Clear key_of c.args.bytes.now))

pub returns-in-Assign : goal.returns-in-Assign
returns-in-Assign c = rw c.in-Assign.is (c.read_assign.ensures ∙ sym (of_assigning c.args.bytes.now))

pub returns-in-Append : goal.returns-in-Append
returns-in-Append c = rw c.in-Append.is (c.read_append.ensures ∙ sym (of_appending c.args.bytes.now))

pub returns-in-Lookup : goal.returns-in-Lookup
returns-in-Lookup c = rw c.in-Lookup.is (c.read_lookup.ensures ∙ sym (of_key_literal asked.Lookup c.args.bytes.now))

pub returns-in-Remove : goal.returns-in-Remove
returns-in-Remove c = rw c.in-Remove.is (c.read_remove.ensures ∙ sym (of_key_literal asked.Remove c.args.bytes.now))

pub returns-in_ok-only_number-in-ReserveNamed : goal.returns-in_ok-only_number-in-ReserveNamed
returns-in_ok-only_number-in-ReserveNamed c =
    rw c.in-ReserveNamed.is (c.in_ok-only_number-in-ReserveNamed.ensures asked.ReserveNamed
    ∙ sym (of_number asked.ReserveNamed c.args.bytes.now))

pub returns-in_err-only_number-in-ReserveNamed : goal.returns-in_err-only_number-in-ReserveNamed
returns-in_err-only_number-in-ReserveNamed c =
    rw c.in-ReserveNamed.is (ap (option_map operation_of) c.from_residual.ensures
    ∙ c.in_err-only_number-in-ReserveNamed.ensures asked.ReserveNamed
    ∙ sym (of_number asked.ReserveNamed c.args.bytes.now))

pub returns-in_ok-only_number-in-ReserveUnique : goal.returns-in_ok-only_number-in-ReserveUnique
returns-in_ok-only_number-in-ReserveUnique c =
    rw c.in-ReserveUnique.is (c.in_ok-only_number-in-ReserveUnique.ensures asked.ReserveUnique
    ∙ sym (of_number asked.ReserveUnique c.args.bytes.now))

pub returns-in_err-only_number-in-ReserveUnique : goal.returns-in_err-only_number-in-ReserveUnique
returns-in_err-only_number-in-ReserveUnique c =
    rw c.in-ReserveUnique.is (ap (option_map operation_of) c.from_residual-in_err-only_number-in-ReserveUnique.ensures
    ∙ c.in_err-only_number-in-ReserveUnique.ensures asked.ReserveUnique
    ∙ sym (of_number asked.ReserveUnique c.args.bytes.now))

pub returns-in-ListNames : goal.returns-in-ListNames
returns-in-ListNames c = rw c.in-ListNames.is (c.read_alone.ensures ∙ sym (ends asked.ListNames c.args.bytes.now))

pub returns-in-ListKinds : goal.returns-in-ListKinds
returns-in-ListKinds c =
    rw c.in-ListKinds.is (c.read_alone-in-ListKinds.ensures ∙ sym (ends asked.ListKinds c.args.bytes.now))

pub returns-in-Blocks : goal.returns-in-Blocks
returns-in-Blocks c = rw c.in-Blocks.is (c.read_alone-in-Blocks.ensures ∙ sym (ends asked.ListBlocks c.args.bytes.now))

pub returns-in-Free : goal.returns-in-Free
returns-in-Free c = rw c.in-Free.is (c.read_alone-in-Free.ensures ∙ sym (ends asked.Free c.args.bytes.now))

pub returns-in-NumNamed : goal.returns-in-NumNamed
returns-in-NumNamed c =
    rw c.in-NumNamed.is (c.read_alone-in-NumNamed.ensures ∙ sym (ends asked.NumNamed c.args.bytes.now))

pub returns-in-NumUnique : goal.returns-in-NumUnique
returns-in-NumUnique c =
    rw c.in-NumUnique.is (c.read_alone-in-NumUnique.ensures ∙ sym (ends asked.NumUnique c.args.bytes.now))

pub returns-in-ShrinkIndexes : goal.returns-in-ShrinkIndexes
returns-in-ShrinkIndexes c =
    rw c.in-ShrinkIndexes.is (c.read_alone-in-ShrinkIndexes.ensures ∙ sym (ends asked.ShrinkIndexes c.args.bytes.now))

pub returns-in-ZeroFree : goal.returns-in-ZeroFree
returns-in-ZeroFree c =
    rw c.in-ZeroFree.is (c.read_alone-in-ZeroFree.ensures ∙ sym (ends asked.ZeroFree c.args.bytes.now))

pub returns-in-Sanity : goal.returns-in-Sanity
returns-in-Sanity c = rw c.in-Sanity.is (c.read_alone-in-Sanity.ensures ∙ sym (ends asked.Sanity c.args.bytes.now))

pub returns-in-AllDeallocated : goal.returns-in-AllDeallocated
returns-in-AllDeallocated c =
    rw c.in-AllDeallocated.is (c.read_alone-in-AllDeallocated.ensures
    ∙ sym (ends asked.AllDeallocated c.args.bytes.now))
