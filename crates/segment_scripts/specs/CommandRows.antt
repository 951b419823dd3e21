-- The commands of the language in short, as they are printed and looked up.
use Rattle.std.specs.Prelude.{ℕ, List, [], ◌∷◌, ◌++◌, codes, if◌then◌else◌}
use Rattle.std.specs.Str.{bytes_eq}
use Rattle.segment_lang.specs.declared.forms.CommandForm.{CommandForm}
use Rattle.segment_lang.specs.declared.forms.CommandForm.TheVariants as form
use Rattle.segment_lang.specs.declared.forms.OperationForm.{OperationForm}
use Rattle.segment_lang.specs.declared.forms.OperationForm.TheVariants as operation
use Rattle.segment_lang.specs.Reading.{Form}
use Rattle.segment_lang.specs.Seen.{reader_of}
use Rattle.segment_scripts.specs.declared.language.CommandRow.{CommandRow}

-- the words, the answer and the meaning of a command's row
abbrev pub row_text : CommandRow → List ℕ
row_text row = row.usage.now ++ (codes " -> "
    ++ (row.answer.now ++ (codes "\n    " ++ (row.does.now ++ (codes "\n" ++ [])))))

-- the words of the command that begins with this word, if there is one
abbrev pub usage_of : List CommandRow → List ℕ → List ℕ
usage_of [] token = []
usage_of (row ∷ rows) token = if bytes_eq row.token.now token then row.usage.now else usage_of rows token

-- the arguments of an operation's command word, as its usage words them
abbrev pub operation_arguments : OperationForm → List ℕ
operation_arguments operation.Construct = codes " KIND[k] NEWKEY ARGS"
operation_arguments operation.ConstructIt = codes " KIND[k] NEWKEY V1 .. Vk"
operation_arguments operation.Find = codes " KIND NAMEKEY"
operation_arguments operation.FindOrConstruct = codes " KIND[k] NAMEKEY ARGS"
operation_arguments operation.Destroy = codes " NAMEKEY"
operation_arguments operation.DestroyPtr = codes " #n"
operation_arguments operation.Show = codes " KEY"
operation_arguments operation.Info = codes " KEY"
operation_arguments operation.Set = codes " KEY I V"
operation_arguments operation.Insert = codes " KEY I V"
operation_arguments operation.Erase = codes " KEY I"
operation_arguments operation.Reserve = codes " KEY N"
operation_arguments operation.Shrink = codes " KEY"
operation_arguments operation.Clear = codes " KEY"
operation_arguments operation.Assign = codes " KEY V .."
operation_arguments operation.Append = codes " KEY TEXT"
operation_arguments operation.Lookup = codes " KEY K"
operation_arguments operation.Remove = codes " KEY K"
operation_arguments operation.ListNames = []
operation_arguments operation.ListKinds = []
operation_arguments operation.Blocks = []
operation_arguments operation.Free = []
operation_arguments operation.NumNamed = []
operation_arguments operation.NumUnique = []
operation_arguments operation.ReserveNamed = codes " N"
operation_arguments operation.ReserveUnique = codes " N"
operation_arguments operation.ShrinkIndexes = []
operation_arguments operation.ZeroFree = []
operation_arguments operation.Sanity = []
operation_arguments operation.AllDeallocated = []

-- the arguments of a command word, as its usage words them
abbrev pub form_arguments : CommandForm → List ℕ
form_arguments form.Size = []
form_arguments form.Get = codes " KEY I"
form_arguments form.Push = codes " KEY V"
form_arguments form.Put = codes " KEY K V"
form_arguments form.Pop = codes " KEY"
form_arguments (form.Operation d) = operation_arguments d

-- a command word, and its form
abbrev pub FormRow : Type 0
FormRow = List ℕ × CommandForm

-- the command words in the order of the language, each with its form
abbrev pub form_rows : List FormRow
form_rows =
    (codes "construct", form.Operation operation.Construct)
    ∷ (codes "construct_it", form.Operation operation.ConstructIt)
    ∷ (codes "find", form.Operation operation.Find)
    ∷ (codes "find_or_construct", form.Operation operation.FindOrConstruct)
    ∷ (codes "destroy", form.Operation operation.Destroy)
    ∷ (codes "destroy_ptr", form.Operation operation.DestroyPtr)
    ∷ (codes "show", form.Operation operation.Show)
    ∷ (codes "info", form.Operation operation.Info)
    ∷ (codes "get", form.Get)
    ∷ (codes "set", form.Operation operation.Set)
    ∷ (codes "push", form.Push)
    ∷ (codes "pop", form.Pop)
    ∷ (codes "insert", form.Operation operation.Insert)
    ∷ (codes "erase", form.Operation operation.Erase)
    ∷ (codes "reserve", form.Operation operation.Reserve)
    ∷ (codes "shrink", form.Operation operation.Shrink)
    ∷ (codes "clear", form.Operation operation.Clear)
    ∷ (codes "assign", form.Operation operation.Assign)
    ∷ (codes "append", form.Operation operation.Append)
    ∷ (codes "put", form.Put)
    ∷ (codes "lookup", form.Operation operation.Lookup)
    ∷ (codes "remove", form.Operation operation.Remove)
    ∷ (codes "list", form.Operation operation.ListNames)
    ∷ (codes "unique", form.Operation operation.ListKinds)
    ∷ (codes "blocks", form.Operation operation.Blocks)
    ∷ (codes "size", form.Size)
    ∷ (codes "free", form.Operation operation.Free)
    ∷ (codes "num_named", form.Operation operation.NumNamed)
    ∷ (codes "num_unique", form.Operation operation.NumUnique)
    ∷ (codes "reserve_named", form.Operation operation.ReserveNamed)
    ∷ (codes "reserve_unique", form.Operation operation.ReserveUnique)
    ∷ (codes "shrink_indexes", form.Operation operation.ShrinkIndexes)
    ∷ (codes "zero_free", form.Operation operation.ZeroFree)
    ∷ (codes "sanity", form.Operation operation.Sanity)
    ∷ (codes "all_deallocated", form.Operation operation.AllDeallocated)
    ∷ []

-- the usage of a command: its word, and its arguments
abbrev pub form_usage : FormRow → List ℕ
form_usage row = row.0 ++ form_arguments row.1

-- the form of a command's arguments
abbrev pub form_read : FormRow → Form
form_read row = (row.0, reader_of row.1)
