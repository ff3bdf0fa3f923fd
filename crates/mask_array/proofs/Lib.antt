mod WorkedArrays
