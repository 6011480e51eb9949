-- The names behind a dot that built-in values know: methods and fields of lists, dicts, strings,
-- depsets, labels, Files and targets, of `attr`, and of `ctx` and its parts. (Starlark's
-- specification, "Built-in methods"; Bazel's documentation of `Label`, `File`, `Target`, `attr`,
-- `ctx` and `actions`. That they are told apart once is this project's own.)
use Rattle.std.specs.Prelude.{ℕ, List, [], ◌∷◌, Option, Some, None, bytes_eq, codes, if◌then◌else◌}
use Rattle.field_names.specs.declared.known_name.KnownName.{KnownName}
use Rattle.field_names.specs.declared.known_name.KnownName.TheVariants as name

-- how a known name is written behind the dot
abbrev pub text_of : KnownName → List ℕ
text_of name.Actions = codes "actions"
text_of name.Append = codes "append"
text_of name.Attr = codes "attr"
text_of name.Basename = codes "basename"
text_of name.Bool = codes "bool"
text_of name.DeclareFile = codes "declare_file"
text_of name.EndsWith = codes "endswith"
text_of name.Extend = codes "extend"
text_of name.Files = codes "files"
text_of name.Get = codes "get"
text_of name.Int = codes "int"
text_of name.Items = codes "items"
text_of name.Join = codes "join"
text_of name.Keys = codes "keys"
text_of name.Label = codes "label"
text_of name.LabelList = codes "label_list"
text_of name.Name = codes "name"
text_of name.Package = codes "package"
text_of name.Path = codes "path"
text_of name.Run = codes "run"
text_of name.RunShell = codes "run_shell"
text_of name.Split = codes "split"
text_of name.StartsWith = codes "startswith"
text_of name.String = codes "string"
text_of name.StringDict = codes "string_dict"
text_of name.StringList = codes "string_list"
text_of name.ToList = codes "to_list"
text_of name.Values = codes "values"
text_of name.Write = codes "write"

-- the first of these names that a text is
abbrev pub named_among : List KnownName → List ℕ → Option KnownName
named_among [] x = None
named_among (k ∷ ks) x = if bytes_eq x (text_of k) then Some k else named_among ks x

-- all known names
abbrev pub known_names : List KnownName
known_names =
    name.Actions ∷
    name.Append ∷
    name.Attr ∷
    name.Basename ∷
    name.Bool ∷
    name.DeclareFile ∷
    name.EndsWith ∷
    name.Extend ∷
    name.Files ∷
    name.Get ∷
    name.Int ∷
    name.Items ∷
    name.Join ∷
    name.Keys ∷
    name.Label ∷
    name.LabelList ∷
    name.Name ∷
    name.Package ∷
    name.Path ∷
    name.Run ∷
    name.RunShell ∷
    name.Split ∷
    name.StartsWith ∷
    name.String ∷
    name.StringDict ∷
    name.StringList ∷
    name.ToList ∷
    name.Values ∷
    name.Write ∷
    []

-- the known name that a text is, if it is one
abbrev pub known_as : List ℕ → Option KnownName
known_as x = named_among known_names x
