mod LineLaws
mod WorkedLines
